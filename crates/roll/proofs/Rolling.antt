-- Laws of the roll: it leads from the old top line to the new one, is in range, and is the only number that is both.
-- Assumes nothing.
use mathlib.Core.Path.{◌≡◌, refl, sym, ap, ◌∙◌}
use mathlib.Core.Bool.{Bool, true, false}
use mathlib.Core.Logic.{◌⊎◌, inl, inr}
use Prim.Native.Nat.{ℕ, ◌+◌, ◌-◌, ◌%◌, ◌<◌, ◌≤◌}
use native.Mathlib.Omega.{arith}
use lib.Dec.{ltb, leb→le, le→leb}
use lib.IntN.{ℤ, pos, negsuc, ◌-ℤ◌}
use borrow.Author.Tests.{ltb-true, ltb-false, lt-ltb, le-ltb}
use Rattle.roll.specs.Roll.{nearest, roll_of, rolled, InRoll}

-- d - 256, for d below 256
pub less_256 : (d : ℕ) → d < 256 → pos d -ℤ pos 256 ≡ negsuc (255 - d)
less_256 d h = rw (lt-ltb d 256 h) (ap negsuc (omega arith))

pub nearest_forward : (d : ℕ) → d < 128 → nearest d ≡ pos d
unfolding nearest
nearest_forward d h = rw (lt-ltb d 128 h)

pub nearest_back : (d : ℕ) → 128 ≤ d → d < 256 → nearest d ≡ negsuc (255 - d)
unfolding nearest
nearest_back d h l = rw (le-ltb d 128 h) (less_256 d l)

-- d below 256 goes forward or back
abbrev Way : ℕ → Type 0
Way d = ((d < 128) × (nearest d ≡ pos d)) ⊎ ((128 ≤ d) × (nearest d ≡ negsuc (255 - d)))

way : (d : ℕ) → d < 256 → Way d
way d l = go (ltb d 128) refl
  where
    go : (b : Bool) → ltb d 128 ≡ b → Way d
    go true e = inl (ltb-true d 128 e, nearest_forward d (ltb-true d 128 e))
    go false e = inr (ltb-false d 128 e, nearest_back d (ltb-false d 128 e) l)

-- backwards by at most 256 lines, with a single 256 added
rolled_back : (old k : ℕ) → k < 256 → rolled old (negsuc k) ≡ (old + 255 - k) % 256
unfolding rolled
rolled_back old k h = omega arith

rolled_way : (old new d : ℕ) → old < 256 → new < 256 → d ≡ (new + 256 - old) % 256 → Way d → rolled old (nearest d) ≡ new
unfolding rolled
rolled_way old new d h l e (inl w) = rw w.1 (omega arith)
rolled_way old new d h l e (inr w) = rw (w.1, rolled_back old (255 - d) (omega arith)) (omega arith)

-- the roll added to the old top line gives the new one
pub rolled_roll : (old new : ℕ) → old < 256 → new < 256 → rolled old (roll_of old new) ≡ new
unfolding roll_of
rolled_roll old new h l = rolled_way old new ((new + 256 - old) % 256) h l refl (way ((new + 256 - old) % 256) (omega arith))

in_way : (d : ℕ) → d < 256 → Way d → InRoll (nearest d)
unfolding InRoll
in_way d l (inl w) = rw w.1 (record { le = tt }, record { le = le→leb d 127 (omega arith) })
in_way d l (inr w) = rw w.1 (record { le = le→leb (255 - d) 127 (omega arith) }, record { le = tt })

-- the roll is from -128 to 127
pub in_roll : (old new : ℕ) → InRoll (roll_of old new)
unfolding roll_of
in_roll old new =
    let l : (new + 256 - old) % 256 < 256 = omega arith in
    in_way ((new + 256 - old) % 256) l (way ((new + 256 - old) % 256) l)

-- no other number from -128 to 127 does
pub only_roll : (old new : ℕ) (z : ℤ) → old < 256 → InRoll z → rolled old z ≡ new → z ≡ roll_of old new
unfolding roll_of rolled InRoll
only_roll old new (pos d) h i e =
    let l : d ≤ 127 = leb→le d 127 i.1.le in
    let p : (new + 256 - old) % 256 ≡ d = omega arith in
    sym (rw p (nearest_forward d (omega arith)))
only_roll old new (negsuc k) h i e =
    let l : k ≤ 127 = leb→le k 127 i.0.le in
    let p : (new + 256 - old) % 256 ≡ 255 - k = omega arith in
    let q : 255 - (255 - k) ≡ k = omega arith in
    sym (rw p (nearest_back (255 - k) (omega arith) (omega arith) ∙ ap negsuc q))

-- the same line: no roll
pub roll_same : (line : ℕ) → roll_of line line ≡ pos 0
unfolding roll_of nearest
roll_same line =
    let p : (line + 256 - line) % 256 ≡ 0 = omega arith in
    rw p

-- both ends, from every top line
pub roll_ends : (old : ℕ) → old < 256 → (roll_of old ((old + 127) % 256) ≡ pos 127) × (roll_of old ((old + 128) % 256) ≡ negsuc 127)
unfolding roll_of nearest
roll_ends old h =
    let p : ((old + 127) % 256 + 256 - old) % 256 ≡ 127 = omega arith in
    let q : ((old + 128) % 256 + 256 - old) % 256 ≡ 128 = omega arith in
    (rw p, rw q)
