-- Reading after adding. Document 02, request [1]: "Reading entry k writes its shown lines to a lent picture; adding is lent room for the next
-- book, its frame last". The theorem is in proofs/After.antt.
use Rattle.std.specs.Prelude.{ℕ, ◌*◌, ◌<◌, ◌≡◌, List, length, take}
use Rattle.facts.specs.Lists.{in_room}
use Rattle.archive.specs.declared.numbers.Entry.{Entry}
use Rattle.archive.specs.Sound.{count_of}
use Rattle.archive_read.specs.Reading.{read_answer, read_picture}
use Rattle.archive_lists.specs.Lists.{Add, refusal_of, next_archive, Gives, Bytes}

-- after a frame was added to an archive of n, entry n is that frame, and every entry below reads as before
abbrev pub ReadAfterAdd : Type 0
ReadAfterAdd =
    (a : List ℕ) (c : Add) (picture : List ℕ) → Bytes a → c.number < 4294967296 → refusal_of a c ≡ 0 → length picture ≡ 23040
    → (Gives (read_answer (next_archive a c) (count_of a) 23040) c.bench c.number c.shown
    × (read_picture (next_archive a c) (count_of a) picture ≡ in_room (take (c.shown * 90) c.picture) picture))
    × ((k : ℕ) → k < count_of a
    → (let e : Entry = (read_answer a k 23040).entry in Gives (read_answer (next_archive a c) k 23040) e.bench e.number e.shown)
    × (read_picture (next_archive a c) k picture ≡ read_picture a k picture))
