-- Whole lists of frames, each added to the archive that the call before left. Document 02, request [1]. The theorems are in
-- proofs/Theorems.antt.
use Rattle.std.specs.Prelude.{ℕ, suc, ◌+◌, ◌-◌, ◌*◌, ◌≤◌, ◌<◌, ◌≡◌, true, false, cond, ◌&&◌, List, [], ◌∷◌, ◌++◌, map, eqb, length, take, get_or}
use Rattle.facts.specs.Lists.{in_room}
use Rattle.byte_rows.specs.Rows.{zeros}
use Rattle.archive.specs.Format.{Frame, shown_of, frame_in, archive_of}
use Rattle.archive.specs.Sound.{count_of, frames_of, is_new, sound, storable}
use Rattle.archive.specs.Answers.{EntryRead, good_fields, count_answer}
use Rattle.archive_read.specs.Reading.{read_answer, read_picture}
use Rattle.archive_add.specs.Adding.{length_or, start_refusal, start_room, frame_of, next_length, add_refusal, add_room}

-- what a call of `add` is given beside the archive, and the frame that it adds
pub record Add : Type 0 where
  pub bench : ℕ
  pub number : ℕ
  pub shown : ℕ
  pub picture : List ℕ
  pub room : List ℕ

abbrev pub frame_added : Add → Frame
frame_added c = frame_of c.bench c.number c.shown c.picture

abbrev pub refusal_of : List ℕ → Add → ℕ
refusal_of a c = add_refusal a c.bench c.number c.shown (length c.picture) (length c.room)

-- what stands in the room afterwards, as far as the length that was answered
unfoldable pub started : List ℕ → List ℕ
started room = take (length_or 20 (start_refusal (length room))).length (start_room room)

unfoldable pub next_archive : List ℕ → Add → List ℕ
next_archive a c =
    take (length_or (next_length (count_of a)) (refusal_of a c)).length (add_room a c.bench c.number c.shown c.picture c.room)

-- a list written, up to the first call that is refused: the archive reached, how many were added, and that refusal or 0
pub record Writing : Type 0 where
  pub archive : List ℕ
  pub added : ℕ
  pub refusal : ℕ

abbrev pub one_more : Writing → Writing
one_more w = record { archive = w.archive; added = suc w.added; refusal = w.refusal }

unfoldable pub writing : List ℕ → List Add → Writing
writing a [] = record { archive = a; added = 0; refusal = 0 }
writing a (c ∷ cs) =
    cond (eqb (refusal_of a c) 0) (one_more (writing (next_archive a c) cs)) (record { archive = a; added = 0; refusal = refusal_of a c })

-- numbers of 32 bits
abbrev pub AllSmall : List Add → Type 0
AllSmall [] = Unit {0}
AllSmall (c ∷ cs) = (c.number < 4294967296) × AllSmall cs

-- an answer of these three numbers
abbrev pub Gives : EntryRead → ℕ → ℕ → ℕ → Type 0
Gives r bench number shown = (r.refusal ≡ 0) × (r.entry.bench ≡ bench) × (r.entry.number ≡ number) × (r.entry.shown ≡ shown)

-- reading an archive gives a list: by its frames, and by what `count` and `read` answer and leave
pub record ReadsAs (a : List ℕ) (fs : List Frame) : Type 0 where
  pub frames : frames_of a ≡ fs
  pub count : count_answer a ≡ record { count = length fs; refusal = 0 }
  pub entries : (k : ℕ) → k < length fs → Gives (read_answer a k 23040) (frame_in fs k).bench (frame_in fs k).number (shown_of (frame_in fs k))
  pub lines : (k : ℕ) (picture : List ℕ) → k < length fs → length picture ≡ 23040 → read_picture a k picture ≡ in_room (frame_in fs k).lines picture

-- "Writing a list of frames, none refused, and reading it back gives the list"
abbrev pub NoneRefused : Type 0
NoneRefused =
    (room : List ℕ) (cs : List Add) → start_refusal (length room) ≡ 0 → AllSmall cs → (writing (started room) cs).refusal ≡ 0
    → ((writing (started room) cs).archive ≡ archive_of (map frame_added cs)) × ReadsAs (writing (started room) cs).archive (map frame_added cs)

-- a call with a whole picture, no more lines than that has, and room for an archive of n. (A call that says more than 256 lines is refused
-- with 11 whatever its frame is.)
pub record Proper (n : ℕ) (c : Add) : Type 0 where
  pub number : c.number < 4294967296
  pub picture : length c.picture ≡ 23040
  pub shown : c.shown ≤ 256
  pub room : n ≤ 1000 → 20 + 23056 * n ≤ length c.room

-- calls that follow n frames, each with room for one frame more than the one before
abbrev pub AllProper : ℕ → List Add → Type 0
AllProper n [] = Unit {0}
AllProper n (c ∷ cs) = Proper (n + 1) c × AllProper (n + 1) cs

-- every list that can be stored is, given room
abbrev pub WrittenAndRead : Type 0
WrittenAndRead =
    (room : List ℕ) (cs : List Add) → start_refusal (length room) ≡ 0 → AllProper 0 cs → storable (map frame_added cs) ≡ true
    → (writing (started room) cs ≡ record { archive = archive_of (map frame_added cs); added = length cs; refusal = 0 })
    × ReadsAs (archive_of (map frame_added cs)) (map frame_added cs)

-- and that is so of every list of frames: this is the call that adds a frame
abbrev pub call_of : List ℕ → Frame → Add
call_of room f = record {
  bench = f.bench;
  number = f.number;
  shown = shown_of f;
  picture = f.lines ++ zeros (23040 - length f.lines);
  room = room;
}

abbrev pub EveryStorableList : Type 0
EveryStorableList =
    (room : List ℕ) (fs : List Frame) → storable fs ≡ true → 20 + 23056 * length fs ≤ length room
    → (writing (started room) (map (call_of room) fs) ≡ record { archive = archive_of fs; added = length fs; refusal = 0 }) × ReadsAs (archive_of fs) fs

-- a list that can't be stored is refused at its first frame that breaks it: with 11 for the frame itself, with 12 for the 1,001st
unfoldable pub break_refusal : List Frame → Add → ℕ
break_refusal fs c = cond (good_fields c.bench c.shown && is_new (frame_in fs) c.bench c.number (length fs)) 12 11

pub record FirstBreak (a : List ℕ) (fs : List Frame) (cs : List Add) : Type 0 where
  pub before : List Add
  pub breaker : Add
  pub after : List Add
  pub split : cs ≡ before ++ (breaker ∷ after)
  pub storable_before : storable (fs ++ map frame_added before) ≡ true
  pub broken : storable (fs ++ map frame_added (before ++ (breaker ∷ []))) ≡ false
  pub refused : writing a cs
      ≡ record { archive = archive_of (fs ++ map frame_added before); added = length before; refusal = break_refusal (fs ++ map frame_added before) breaker }

abbrev pub RefusedAtItsFirstBreak : Type 0
RefusedAtItsFirstBreak =
    (room : List ℕ) (cs : List Add) → start_refusal (length room) ≡ 0 → AllProper 0 cs → storable (map frame_added cs) ≡ false → FirstBreak (started room) [] cs

-- what a lent slice holds
abbrev pub Bytes : List ℕ → Type 0
Bytes a = (j : ℕ) → get_or a j 0 < 256

-- "a book that reads is the only book of its list and fills what is lent"
abbrev pub OnlyArchive : Type 0
OnlyArchive =
    (a : List ℕ) → Bytes a → sound a ≡ true
    → (archive_of (frames_of a) ≡ a) × (length a ≡ 20 + 23056 * length (frames_of a)) × ((d : List ℕ) → Bytes d → sound d ≡ true → frames_of a ≡ frames_of d → a ≡ d)
