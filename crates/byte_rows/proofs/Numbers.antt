-- Laws of numbers of four bytes.
-- Assumes nothing.
use Prim.Native.Nat.{ℕ, ◌+◌, ◌*◌, ◌/◌, ◌%◌, ◌≤◌, ◌<◌}
use native.Mathlib.Nat.{add_assoc}
use native.Mathlib.Numerals.{add-one}
use native.Mathlib.Omega.{arith}
use mathlib.Core.Path.{◌≡◌, refl}
use mathlib.Core.List.{List, [], ◌∷◌, ◌++◌}
use lib.ListN.{length, get_or, take, drop}
use lib.Seq.{get_or-drop, drop-cons, drop-drop, take-add}
use Rattle.byte_rows.specs.Numbers.{number4, at4}

pub number_length : (n : ℕ) → length (number4 n) ≡ 4
unfolding number4
number_length n = refl

-- written and read back
nested : (n p q r : ℕ) → p ≡ n / 256 → q ≡ p / 256 → r ≡ q / 256 → n < 4294967296 → n % 256 + 256 * (p % 256) + 65536 * (q % 256) + 16777216 * (r % 256) ≡ n
nested n p q r e f g h = omega arith

pub whole : (n : ℕ) → n < 4294967296 → n % 256 + 256 * (n / 256 % 256) + 65536 * (n / 65536 % 256) + 16777216 * (n / 16777216 % 256) ≡ n
whole n h = nested n (n / 256) (n / 65536) (n / 16777216) refl (omega arith) (omega arith) h

pub number_read : (n : ℕ) (r : List ℕ) → n < 4294967296 → at4 (number4 n ++ r) 0 ≡ n
unfolding number4 at4
number_read n r h = whole n h

pub at_drop : (b : List ℕ) (s i : ℕ) → at4 (drop s b) i ≡ at4 b (s + i)
unfolding at4
at_drop b s i = rw (get_or-drop s b i 0, get_or-drop s b (i + 1) 0, get_or-drop s b (i + 2) 0, get_or-drop s b (i + 3) 0, add_assoc s i 1, add_assoc s i 2, add_assoc s i 3)

-- bytes read and written back
bytes : (a b c d n : ℕ) → n ≡ a + 256 * b + 65536 * c + 16777216 * d → a < 256 → b < 256 → c < 256 → d < 256
    → (n % 256 ≡ a) × (n / 256 % 256 ≡ b) × (n / 65536 % 256 ≡ c) × (n / 16777216 % 256 ≡ d)
bytes a b c d n e p q r s = (omega arith, omega arith, omega arith, omega arith)

pub at_small : (b : List ℕ) (k : ℕ) → ((j : ℕ) → get_or b j 0 < 256) → at4 b k < 4294967296
unfolding at4
at_small b k h = omega (arith, h k, h (k + 1), h (k + 2), h (k + 3))

peel : (b : List ℕ) (s t : ℕ) → t ≡ s + 1 → s < length b → drop s b ≡ get_or b s 0 ∷ drop t b
peel b s t e h = rw (e, add-one, drop-cons b s 0 h)

four : (b : List ℕ) (s : ℕ) → s + 4 ≤ length b → take 4 (drop s b) ≡ get_or b s 0 ∷ get_or b (s + 1) 0 ∷ get_or b (s + 2) 0 ∷ get_or b (s + 3) 0 ∷ []
four b s h =
    rw (peel b s (s + 1) refl (omega arith), peel b (s + 1) (s + 2) (omega arith) (omega arith), peel b (s + 2) (s + 3) (omega arith) (omega arith), peel b (s + 3) (s + 4) (omega arith) (omega arith))

pub number_back : (b : List ℕ) (s : ℕ) → ((j : ℕ) → get_or b j 0 < 256) → s + 4 ≤ length b → number4 (at4 b s) ≡ take 4 (drop s b)
unfolding number4 at4
number_back b s small h =
    let e = bytes (get_or b s 0) (get_or b (s + 1) 0) (get_or b (s + 2) 0) (get_or b (s + 3) 0) _ refl (small s) (small (s + 1)) (small (s + 2)) (small (s + 3)) in
    rw (four b s h, e.0, e.1, e.2, e.3)

-- one number more of a run of bytes
pub number_more : (b : List ℕ) (s t m : ℕ) → ((j : ℕ) → get_or b j 0 < 256) → t ≡ s + 4 → t ≤ length b → take (4 + m) (drop s b) ≡ number4 (at4 b s) ++ take m (drop t b)
number_more b s t m small e h = rw (e, number_back b s small (omega arith), take-add 4 m (drop s b), drop-drop 4 s b)
