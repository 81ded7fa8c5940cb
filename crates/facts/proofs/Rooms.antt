-- Laws of `in_room`: a text at the front of lent room, put down part by part.
-- Assumes nothing.
use Prim.Native.Nat.{ℕ, ◌+◌, ◌≤◌}
use native.Mathlib.Omega.{arith}
use mathlib.Core.Path.{◌≡◌, refl}
use mathlib.Core.List.{List, [], ◌++◌}
use lib.ListN.{length, take, drop, length-append, length-drop}
use lib.Seq.{take-append_seam, drop-append-add, drop-drop}
use Rattle.facts.specs.Lists.{in_room}

pub room_length : (text out : List ℕ) → length text ≤ length out → length (in_room text out) ≡ length out
unfolding in_room
room_length text out h = simp (length-append, length-drop) (omega arith)

pub room_nothing : (out : List ℕ) → out ≡ in_room [] out
unfolding in_room
room_nothing out = refl

pub room_step : (t l out : List ℕ) → take (length t) (in_room t out) ++ l ++ drop (length t + length l) (in_room t out) ≡ in_room (t ++ l) out
unfolding in_room
room_step t l out = rw (take-append_seam, drop-append-add, drop-drop, length-append)
