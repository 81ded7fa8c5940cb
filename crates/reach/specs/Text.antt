-- The text of the reach list: document 01, "A program, the reach list".
use Rattle.std.specs.Prelude.{ℕ, zero, suc, ◌+◌, ◌-◌, ◌*◌, ◌/◌, ◌%◌, Result, Ok, Err, List, [], ◌∷◌, ◌++◌, cond, ltb, length, get_or, take, drop}
use Rattle.facts.specs.Lists.{in_room}
use Rattle.paging.specs.declared.Sizes.{Sizes}
use Rattle.paging.specs.declared.Paging.{Paging}
use Rattle.paging.specs.Memory.{place_of, read_block, write_block}
use Rattle.paging.specs.Maps.{allowed}
use Rattle.refusal.specs.declared.Refusal.{Refusal}
use Rattle.refusal.specs.declared.Refusal.TheVariants.{BadLength}
use Rattle.reach.specs.declared.Line.{Line}
use Rattle.reach.specs.declared.Line.TheVariants.{Reached, Refused}

-- the last hex digit of a number, in upper case; its last two; its last four
unfoldable pub hex_digit : ℕ → ℕ
hex_digit n = cond (ltb (n % 16) 10) (48 + n % 16) (65 + (n % 16 - 10))

unfoldable pub hex2 : ℕ → List ℕ
hex2 n = hex_digit (n / 16) ∷ hex_digit n ∷ []

unfoldable pub hex4 : ℕ → List ℕ
hex4 n = hex_digit (n / 4096) ∷ hex_digit (n / 256) ∷ hex_digit (n / 16) ∷ hex_digit n ∷ []

-- "R bb pppp W bb pppp" and a newline: the block and place that a read and a write reach
unfoldable pub reach_line : Sizes → Paging → ℕ → List ℕ
reach_line s p address =
    (82 ∷ 32 ∷ []) ++ hex2 (read_block s p address) ++ (32 ∷ []) ++ hex4 (place_of address) ++ (32 ∷ 87 ∷ 32 ∷ [])
    ++ hex2 (write_block s p address) ++ (32 ∷ []) ++ hex4 (place_of address) ++ (10 ∷ [])

-- "X 6" or "X 2" and a newline
unfoldable pub refusal_line : ℕ → List ℕ
refusal_line number = 88 ∷ 32 ∷ (48 + number) ∷ 10 ∷ []

-- what a group of 9 bytes holds: internal, total, F0 to F3, lock, address low, high
unfoldable pub sizes_of : List ℕ → Sizes
sizes_of g = record { internal = get_or g 0 0; total = get_or g 1 0 }

unfoldable pub paging_of : List ℕ → Paging
paging_of g = record { maps = get_or g 2 0 ∷ get_or g 3 0 ∷ get_or g 4 0 ∷ get_or g 5 0 ∷ []; lock = get_or g 6 0 }

unfoldable pub address_of : List ℕ → ℕ
address_of g = get_or g 7 0 + 256 * get_or g 8 0

-- the line of a whole group, and of any: a group of less than 9 bytes is short
unfoldable pub whole_line : List ℕ → List ℕ
whole_line g = cond (allowed (sizes_of g)) (reach_line (sizes_of g) (paging_of g) (address_of g)) (refusal_line 6)

unfoldable pub group_line : List ℕ → List ℕ
group_line g = cond (ltb (length g) 9) (refusal_line 2) (whole_line g)

-- the bytes of a line as it is made
unfoldable pub line_bytes : Line → List ℕ
line_bytes (Reached bytes) = bytes
line_bytes (Refused bytes) = bytes

-- the line of the k-th group, the first k lines, and the lines of all groups
unfoldable pub line_at : List ℕ → ℕ → List ℕ
line_at input k = group_line (take 9 (drop (9 * k) input))

unfoldable pub text_of : List ℕ → ℕ → List ℕ
text_of input zero = []
text_of input (suc k) = text_of input k ++ line_at input k

unfoldable pub groups : ℕ → ℕ
groups size = (size + 8) / 9

unfoldable pub reach_text : List ℕ → List ℕ
reach_text input = text_of input (groups (length input))

-- what `list` answers and leaves in `out`, which must have 20 bytes for each group
unfoldable pub listed : List ℕ → ℕ → Result ℕ Refusal
listed input room = cond (ltb room (20 * groups (length input))) (Err BadLength) (Ok (length (reach_text input)))

unfoldable pub listed_out : List ℕ → List ℕ → List ℕ
listed_out input out = cond (ltb (length out) (20 * groups (length input))) out (in_room (reach_text input) out)
