-- The roll of the top line: the number from -128 to 127 that added to the old F6 gives the new one mod 256.
-- A number is `pos n`, which is n, or `negsuc n`, which is -(n + 1).
-- Assumes nothing.
use Rattle.std.specs.Prelude.{ℕ, suc, ◌+◌, ◌-◌, ◌*◌, ◌%◌, cond, ltb, ℤ, pos, negsuc, ◌-ℤ◌, ◌≤ℤ◌}

-- d lines forward, as a number from -128 to 127: d below 128, else d - 256
unfoldable pub nearest : ℕ → ℤ
nearest d = cond (ltb d 128) (pos d) (pos d -ℤ pos 256)

unfoldable pub roll_of : ℕ → ℕ → ℤ
roll_of old new = nearest ((new + 256 - old) % 256)

-- what z added to old gives mod 256
unfoldable pub rolled : ℕ → ℤ → ℕ
rolled old (pos d) = (old + d) % 256
rolled old (negsuc k) = (old + 256 * suc k - suc k) % 256

-- from -128 to 127
unfoldable pub InRoll : ℤ → Type 0
InRoll z = (negsuc 127 ≤ℤ z) × (z ≤ℤ pos 127)
