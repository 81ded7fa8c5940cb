-- Reading the archive of a list gives the list.
-- Assumes nothing.
use Prim.Native.Nat.{ℕ, ◌<◌}
use mathlib.Core.Path.{◌≡◌, refl, ap}
use mathlib.Core.Bool.{true}
use mathlib.Core.List.{List}
use borrow.Author.Tests.{lt-ltb}
use lib.ListN.{length}
use Rattle.facts.specs.Lists.{in_room}
use Rattle.archive.specs.Format.{Frame, frame_in, shown_of, archive_of}
use Rattle.archive.specs.Sound.{entry_of, storable}
use Rattle.archive.specs.Answers.{count_answer, entry_refusal, entry_answer}
use Rattle.archive.proofs.Written.{few_of, good_in, archive_fields, archive_lines, written_sound, written_read}
use Rattle.archive_read.specs.Reading.{read_answer, read_picture}
use Rattle.archive_lists.specs.Lists.{Gives, ReadsAs}
use Rattle.archive_lists.proofs.Storing.{written_count}

-- ---- entry k of the archive of a list

module _ (fs : List Frame) (s : storable fs ≡ true) (k : ℕ) (l : k < length fs) where
  given : entry_answer (archive_of fs) k ≡ record { entry = entry_of (archive_of fs) k; refusal = 0 }
  unfolding entry_answer entry_refusal
  given = rw (written_sound fs s, written_count fs s, lt-ltb k (length fs) l)

  answered : read_answer (archive_of fs) k 23040 ≡ record { entry = entry_of (archive_of fs) k; refusal = 0 }
  unfolding read_answer
  answered = given

  pub reads : Gives (read_answer (archive_of fs) k 23040) (frame_in fs k).bench (frame_in fs k).number (shown_of (frame_in fs k))
  unfolding entry_of archive_of
  reads =
      let e = archive_fields (frame_in fs) (length fs) (few_of fs s) (good_in fs s) k l in
      rw answered (refl, e.0, e.1, e.2)

  pub reads_lines : (picture : List ℕ) → length picture ≡ 23040 → read_picture (archive_of fs) k picture ≡ in_room (frame_in fs k).lines picture
  unfolding read_picture archive_of
  reads_lines picture w = rw (w, answered) (ap (λ (x : List ℕ). in_room x picture) (archive_lines (frame_in fs) (length fs) (few_of fs s) (good_in fs s) k l))

module _ (fs : List Frame) (s : storable fs ≡ true) where
  counted : count_answer (archive_of fs) ≡ record { count = length fs; refusal = 0 }
  unfolding count_answer
  counted = rw (written_sound fs s, written_count fs s)

  pub reads_as : ReadsAs (archive_of fs) fs
  reads_as = record {
    frames = written_read fs s;
    count = counted;
    entries = λ k l. reads fs s k l;
    lines = λ k picture l w. reads_lines fs s k l picture w;
  }
