-- Reading a frame of an archive. Document 02, request [1].
use Rattle.std.specs.Prelude.{ℕ, cond, List, eqb, length}
use Rattle.facts.specs.Lists.{in_room}
use Rattle.archive.specs.Answers.{EntryRead, no_entry, entry_answer}
use Rattle.archive.specs.Sound.{lines_at}

-- 2 for a lent picture of a wrong length; then as an entry is asked for
unfoldable pub read_answer : List ℕ → ℕ → ℕ → EntryRead
read_answer a k size = cond (eqb size 23040) (entry_answer a k) (record { entry = no_entry; refusal = 2 })

-- "Reading entry k writes its shown lines to a lent picture"; every other byte of it stays
unfoldable pub read_picture : List ℕ → ℕ → List ℕ → List ℕ
read_picture a k picture = cond (eqb (read_answer a k (length picture)).refusal 0) (in_room (lines_at a k) picture) picture
