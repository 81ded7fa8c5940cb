-- Laws of the pixels of two bytes: the leftmost in which they differ.
-- Assumes nothing.
use Prim.Native.Nat.{ℕ, suc, ◌+◌, ◌-◌, ◌*◌, ◌/◌, ◌%◌, ◌^◌, ◌≤◌, ◌<◌}
use native.Mathlib.Numerals.{add-one}
use native.Mathlib.Omega.{arith}
use mathlib.Core.Path.{◌≡◌, refl, sym, ◌∙◌, ap}
use lib.Bits.{bit_or, bit_xor, xor_add_and, and_le_l, and_le_r}
use mathlib.Core.Bool.{Bool, true, false}
use borrow.Author.Tests.{eqb-true, eqb-false}
use lib.Dec.{eqb}
use lib.Count.{count_leading_zeros}
use lib.Pow.{shr-shr}
use Rattle.std.specs.Int.Bits.{xor_self}
use Rattle.std.proofs.lemmas.Nat.{xor_shr, xor_lt, leading_top, shl-shr}
use Rattle.std.proofs.Math.Nat.{div-eq_of_lt}
use Rattle.std.proofs.Math.Pow.{shr_mono}
use borrow.Author.Count.{below_more}
use lib.ListN.{get_or}
use mathlib.Core.List.{List}
use Rattle.facts.proofs.Bits.{or_zero}
use Rattle.panel.specs.Widen.{pixel_of}
use Rattle.picture_compare.specs.Differences.{AlikeFrom}

half : (x j : ℕ) → x / 2 ^ suc j ≡ x / 2 ^ j / 2
half x j = ap (λ (m : ℕ). x / 2 ^ m) (sym (add-one j)) ∙ sym (shr-shr x j 1)

next_digit : (x y j : ℕ) → x / 2 ^ suc j ≡ y / 2 ^ suc j → x / 2 ^ j % 2 ≡ y / 2 ^ j % 2 → x / 2 ^ j ≡ y / 2 ^ j
next_digit x y j h d = let e : x / 2 ^ j / 2 ≡ y / 2 ^ j / 2 = sym (half x j) ∙ h ∙ half y j in omega arith

xor_zero : (a b : ℕ) → bit_xor a b ≡ 0 → a ≡ b
xor_zero a b e = omega (arith, xor_add_and a b, and_le_l a b, and_le_r a b)

-- from the left: k equal pixels are equal numbers above the other 8 - k
pub pixels_start : (x y : ℕ) → x < 256 → y < 256 → x / 2 ^ (8 - 0) ≡ y / 2 ^ (8 - 0)
pixels_start x y h l = omega arith

pub pixels_next : (x y k : ℕ) → k ≤ 7 → x / 2 ^ (8 - k) ≡ y / 2 ^ (8 - k) → pixel_of x k ≡ pixel_of y k → x / 2 ^ (8 - (k + 1)) ≡ y / 2 ^ (8 - (k + 1))
unfolding pixel_of
pixels_next x y k h e d =
    let s : 8 - k ≡ suc (7 - k) = omega arith in
    let t : 8 - (k + 1) ≡ 7 - k = omega arith in
    rw t (next_digit x y (7 - k) (rw s at e) d)

-- one byte more, of which no bit differs
pub from_next : (a b : List ℕ) (first i found : ℕ) → (found ≡ 0 → AlikeFrom a b first i)
    → bit_or found (bit_xor (get_or a (first + i) 0) (get_or b (first + i) 0)) ≡ 0 → AlikeFrom a b first (i + 1)
from_next a b first i found h e =
    let z = or_zero found (bit_xor (get_or a (first + i) 0) (get_or b (first + i) 0)) e in
    below_more (λ m. get_or a (first + m) 0 ≡ get_or b (first + m) 0) i (h z.0) (xor_zero (get_or a (first + i) 0) (get_or b (first + i) 0) z.1)

-- pixels above a bit from which on the bytes are the same
pub pixels_before : (x y k j : ℕ) → k ≤ 8 → x / 2 ^ (8 - k) ≡ y / 2 ^ (8 - k) → j < k → pixel_of x j ≡ pixel_of y j
unfolding pixel_of
pixels_before x y k j h e l =
    let s : 7 - j ≡ 8 - k + (k - suc j) = omega arith in
    rw (s, ← shr-shr x (8 - k) (k - suc j), ← shr-shr y (8 - k) (k - suc j), e)

-- the last pixel of two unequal bytes, the others equal
pub last_pixel : (x y : ℕ) → (x ≡ y → ⊥) → x / 2 ^ (8 - 7) ≡ y / 2 ^ (8 - 7) → pixel_of x 7 ≡ pixel_of y 7 → ⊥
unfolding pixel_of
last_pixel x y ne e d = ne (omega arith)

-- the zeros before the top bit in which two unequal bytes differ are the pixels before the first in which they do
module _ (x y : ℕ) (x_byte : x < 256) (y_byte : y < 256) (unlike : x ≡ y → ⊥) where
  top : (j : ℕ) × (count_leading_zeros 8 (bit_xor x y) + suc j ≡ 8) × (2 ^ j ≤ bit_xor x y) × (bit_xor x y < 2 ^ suc j)
  top = go (eqb (bit_xor x y) 0) refl
    where
      go : (t : Bool) → eqb (bit_xor x y) 0 ≡ t → (j : ℕ) × (count_leading_zeros 8 (bit_xor x y) + suc j ≡ 8) × (2 ^ j ≤ bit_xor x y) × (bit_xor x y < 2 ^ suc j)
      go true e = absurd (unlike (xor_zero x y (eqb-true (bit_xor x y) 0 e)))
      go false e = let ne : (bit_xor x y ≡ 0 → ⊥) = eqb-false (bit_xor x y) 0 e in leading_top 8 (bit_xor x y) (omega arith) (xor_lt 8 x y x_byte y_byte)

  above : (j : ℕ) → bit_xor x y < 2 ^ suc j → x / 2 ^ suc j ≡ y / 2 ^ suc j
  above j h = xor_zero (x / 2 ^ suc j) (y / 2 ^ suc j) (sym (xor_shr x y (suc j)) ∙ div-eq_of_lt h)

  here : (j : ℕ) → 2 ^ j ≤ bit_xor x y → bit_xor x y < 2 ^ suc j → x / 2 ^ j % 2 ≡ y / 2 ^ j % 2 → ⊥
  here j l h e =
      let same = next_digit x y j (above j h) e in
      let none : bit_xor x y / 2 ^ j ≡ 0 = xor_shr x y j ∙ ap (bit_xor (x / 2 ^ j)) (sym same) ∙ xor_self (x / 2 ^ j) in
      let one : 1 ≤ bit_xor x y / 2 ^ j = rw (shl-shr 1 j) at (shr_mono {a = 1 * 2 ^ j} {b = bit_xor x y} j (omega (arith, l))) in
      omega arith

  pub first_unlike : (count_leading_zeros 8 (bit_xor x y) < 8)
      × (((k : ℕ) → k < count_leading_zeros 8 (bit_xor x y) → pixel_of x k ≡ pixel_of y k)
      × (pixel_of x (count_leading_zeros 8 (bit_xor x y)) ≡ pixel_of y (count_leading_zeros 8 (bit_xor x y)) → ⊥))
  unfolding pixel_of
  first_unlike =
      let j = top.0 in
      let before : 8 - count_leading_zeros 8 (bit_xor x y) ≡ suc j = omega (arith, top.1) in
      let at : 7 - count_leading_zeros 8 (bit_xor x y) ≡ j = omega (arith, top.1) in (
        omega (arith, top.1),
        ((λ k l. pixels_before x y (count_leading_zeros 8 (bit_xor x y)) k (omega (arith, top.1)) (rw before (above j top.3)) l), rw at (here j top.2 top.3)),
      )
