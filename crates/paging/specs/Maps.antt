-- Sizes and the block that a map byte names: document 01, "What the box holds" and "Memory", and Issue 9, section 8.
use Rattle.std.specs.Prelude.{ℕ, ◌*◌, ◌/◌, ◌%◌, Bool, cond, ◌&&◌, ◌||◌, eqb, ltb, leb}
use Rattle.paging.specs.declared.Sizes.{Sizes}

-- "Internal memory is 8, 16 or 32 blocks; total is from internal to 128."
unfoldable pub allowed : Sizes → Bool
allowed s = (eqb s.internal 8 || eqb s.internal 16 || eqb s.internal 32) && (leb s.internal s.total && leb s.total 128)

-- "RAM is lent, total x 16,384 bytes."
unfoldable pub ram_fits : Sizes → ℕ → Bool
ram_fits s length = eqb length (s.total * 16384)

-- "Map byte m with D7 set: e = m mod 128; the block is e if e < total, else e mod internal". A remainder by 0 is the number itself.
unfoldable pub expansion : Sizes → ℕ → ℕ
expansion s map = cond (ltb (map % 128) s.total) (map % 128) (map % 128 % s.internal)

-- "D7 clear: write block m mod 8; read block (m / 16) mod 8, or the write block if the bank's lock bit is set."
unfoldable pub map_write : Sizes → ℕ → ℕ
map_write s map = cond (leb 128 map) (expansion s map) (map % 8)

unfoldable pub map_read : Sizes → Bool → ℕ → ℕ
map_read s lock map = cond (leb 128 map) (expansion s map) (cond lock (map % 8) (map / 16 % 8))
