-- The entries of an archive as rows of 16 bytes, for the functions of `archive`. What an entry is, `Sound.antt` says.
use Rattle.std.specs.Prelude.{ℕ, Bool, ◌&&◌, List, [], eqb, get_or, take, drop}
use Rattle.byte_rows.specs.Numbers.{at4}
use Rattle.archive.specs.declared.numbers.Entry.{Entry}
use Rattle.archive.specs.declared.numbers.Pair.{Pair}
use Rattle.archive.specs.Format.{Frame, entry_offset}

-- the bytes of entry k
unfoldable pub row_at : List ℕ → ℕ → List ℕ
row_at a k = take 16 (drop (entry_offset k) a)

-- the entry, and the pair of bench and number, at the front of some bytes
unfoldable pub entry_in : List ℕ → Entry
entry_in row = record { bench = at4 row 0; number = at4 row 4; shown = at4 row 8; offset = at4 row 12 }

unfoldable pub pair_in : List ℕ → Pair
pair_in row = record { bench = at4 row 0; number = at4 row 4 }

-- rows as frames, of which no more than the pairs is told
unfoldable pub named : List (List ℕ) → ℕ → Frame
named rows j = record { bench = at4 (get_or rows j []) 0; number = at4 (get_or rows j []) 4; lines = [] }

unfoldable pub same_pair : Pair → Pair → Bool
same_pair p q = eqb p.bench q.bench && eqb p.number q.number
