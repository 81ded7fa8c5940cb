-- Starting an archive, and adding a frame. Document 02, request [1].
use Rattle.std.specs.Prelude.{ℕ, ◌+◌, ◌*◌, Bool, cond, ◌&&◌, List, [], ◌∷◌, ◌++◌, eqb, leb, ltb, length, take}
use Rattle.facts.specs.Lists.{in_room}
use Rattle.archive.specs.Format.{Frame, archive_of}
use Rattle.archive.specs.Sound.{count_of, frame_at, frames_of, sound, is_new}
use Rattle.archive.specs.Answers.{good_fields}

-- an answer: the length written, or 0 and the refusal
pub record Written : Type 0 where
  pub length : ℕ
  pub refusal : ℕ

unfoldable pub length_or : ℕ → ℕ → Written
length_or size refusal = record { length = cond (eqb refusal 0) size 0; refusal = refusal }

-- the archive of no frames, "12 no room"
unfoldable pub start_refusal : ℕ → ℕ
start_refusal room = cond (leb 20 room) 0 12

unfoldable pub start_room : List ℕ → List ℕ
start_room room = cond (eqb (start_refusal (length room)) 0) (in_room (archive_of []) room) room

-- the frame that a call adds: of the lent picture its shown lines
unfoldable pub frame_of : ℕ → ℕ → ℕ → List ℕ → Frame
frame_of bench number shown picture = record { bench = bench; number = number; lines = take (shown * 90) picture }

-- "20 + 23,056n", of one frame more
unfoldable pub next_length : ℕ → ℕ
next_length n = 20 + 23056 * (n + 1)

-- "12 no room, given exactly when n is 1,000 or the new length is over the room lent"
unfoldable pub room_for : ℕ → ℕ → Bool
room_for n room = ltb n 1000 && leb (next_length n) room

-- "Refusals: after 2, 10 not a sound book, 11 pair already there, a field out of range .., 12 no room"
unfoldable pub add_refusal : List ℕ → ℕ → ℕ → ℕ → ℕ → ℕ → ℕ
add_refusal a bench number shown size room =
    cond (eqb size 23040)
    (cond (sound a)
    (cond (good_fields bench shown && is_new (frame_at a) bench number (count_of a)) (cond (room_for (count_of a) room) 0 12) 11) 10) 2

-- "adding is lent room for the next book, its frame last"
unfoldable pub add_room : List ℕ → ℕ → ℕ → ℕ → List ℕ → List ℕ → List ℕ
add_room a bench number shown picture room =
    cond (eqb (add_refusal a bench number shown (length picture) (length room)) 0)
    (in_room (archive_of (frames_of a ++ (frame_of bench number shown picture ∷ []))) room)
    room
