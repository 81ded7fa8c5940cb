-- Patterns of bytes, and sums over bytes.
use Rattle.std.specs.Prelude.{ℕ, ◌+◌, ◌*◌, ◌/◌, ◌%◌, List, fold}

-- the byte of a pattern at an index
abbrev pub pattern : ℕ → ℕ → ℕ
pattern first at = (at % 256 * 167 + at / 256 % 256 * 3 + first) % 256

-- a sum in which the order of the bytes counts
abbrev pub sum : List ℕ → ℕ
sum bytes = fold (λ s x. (s % 1000000007 * 257 + x) % 1000000007) 1 bytes
