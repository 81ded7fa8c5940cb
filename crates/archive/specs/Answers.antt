-- What is asked of an archive: its count, an entry, and where a bench and number stand. Document 02, request [1]: "Refusals: .. 10 not a
-- sound book, 11 .. k not below n"; "a number a refusal leaves unsaid is 0".
use Rattle.std.specs.Prelude.{ℕ, ◌+◌, ◌*◌, Bool, cond, ◌&&◌, List, Option, None, eqb, leb, ltb, length}
use Rattle.facts.specs.Tests.{first_of}
use Rattle.archive.specs.declared.numbers.Entry.{Entry}
use Rattle.archive.specs.Sound.{count_of, entry_of, frame_at, good_bench, good_shown, has_pair, sound}

-- answers, each with its refusal number, or 0
pub record Counted : Type 0 where
  pub count : ℕ
  pub refusal : ℕ

pub record EntryRead : Type 0 where
  pub entry : Entry
  pub refusal : ℕ

pub record Found : Type 0 where
  pub index : Option ℕ
  pub refusal : ℕ

abbrev pub no_entry : Entry
no_entry = record { bench = 0; number = 0; shown = 0; offset = 0 }

-- entry k as it stands, in whatever bytes; zeros where it is not wholly there
unfoldable pub entry_at : List ℕ → ℕ → Entry
entry_at a k = cond (leb (36 + 16 * k) (length a)) (entry_of a k) no_entry

unfoldable pub good_fields : ℕ → ℕ → Bool
good_fields bench shown = good_bench bench && good_shown shown

unfoldable pub count_answer : List ℕ → Counted
count_answer a = cond (sound a) (record { count = count_of a; refusal = 0 }) (record { count = 0; refusal = 10 })

unfoldable pub entry_refusal : List ℕ → ℕ → ℕ
entry_refusal a k = cond (sound a) (cond (ltb k (count_of a)) 0 11) 10

unfoldable pub entry_answer : List ℕ → ℕ → EntryRead
entry_answer a k =
    cond (eqb (entry_refusal a k) 0) (record { entry = entry_of a k; refusal = 0 }) (record { entry = no_entry; refusal = entry_refusal a k })

-- which of the entries has the pair, the first if several had
unfoldable pub find_answer : List ℕ → ℕ → ℕ → Found
find_answer a bench number =
    cond (sound a) (record { index = first_of (has_pair (frame_at a) bench number) 0 (count_of a); refusal = 0 })
    (record { index = None; refusal = 10 })
