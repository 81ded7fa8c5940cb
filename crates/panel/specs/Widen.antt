-- One line for the 1,440-wide panel: 90 bytes to 180, each pixel twice. The leftmost pixel is in the top bit of a byte.
-- Assumes nothing.
use Rattle.std.specs.Prelude.{ℕ, zero, suc, ◌+◌, ◌-◌, ◌*◌, ◌/◌, ◌%◌, ◌^◌, Bool, cond, ◌&&◌, List, [], ◌∷◌, eqb, length, get_or}

-- pixel k of the byte b, 0 to 7, the leftmost first
unfoldable pub pixel_of : ℕ → ℕ → ℕ
pixel_of b k = b / 2 ^ (7 - k) % 2

-- the number whose n binary digits are p 0, p 1, .., the leftmost first
unfoldable pub digits : (ℕ → ℕ) → ℕ → ℕ
digits p zero = 0
digits p (suc n) = 2 * digits p n + p n

-- the byte whose pixels are p 0 to p 7
unfoldable pub byte_of : (ℕ → ℕ) → ℕ
byte_of p = digits p 8

-- half 0: the left four pixels of b, each twice; half 1: the right four
unfoldable pub doubled_byte : ℕ → ℕ → ℕ
doubled_byte b half = byte_of (λ k. pixel_of b (4 * half + k / 2))

-- the two halves, the left in the high byte
unfoldable pub doubled_pair : ℕ → ℕ
doubled_pair b = doubled_byte b 0 * 256 + doubled_byte b 1

-- f from, f (from + 1), .., n values
unfoldable pub tabulate : (ℕ → ℕ) → ℕ → ℕ → List ℕ
tabulate f from zero = []
tabulate f from (suc n) = f from ∷ tabulate f (suc from) n

-- byte i of a line once widened
unfoldable pub widened_at : List ℕ → ℕ → ℕ
widened_at line i = doubled_byte (get_or line (i / 2) 0) (i % 2)

unfoldable pub widened : List ℕ → List ℕ
widened line = tabulate (widened_at line) 0 180

-- pixel j of a line of bytes, in reading order
unfoldable pub pixel_in : List ℕ → ℕ → ℕ
pixel_in bytes j = pixel_of (get_or bytes (j / 8) 0) (j % 8)

-- whether the line has 90 bytes and the wide line 180
unfoldable pub widen_fits : ℕ → ℕ → Bool
widen_fits n m = eqb n 90 && eqb m 180

-- the refusal number: 2 where a length is wrong
unfoldable pub widen_refusal : ℕ → ℕ → ℕ
widen_refusal n m = cond (widen_fits n m) 0 2

-- what the wide line holds afterwards: nothing is written where it is refused
unfoldable pub widened_out : List ℕ → List ℕ → List ℕ
widened_out line out = cond (widen_fits (length line) (length out)) (widened line) out
