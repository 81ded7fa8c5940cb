-- Laws of the first difference: the pixels of two bytes, the first of some pixels, and the first place where two pictures differ.
-- Assumes nothing.
use Prim.Native.Nat.{ℕ, zero, suc, ◌+◌, ◌-◌, ◌*◌, ◌/◌, ◌%◌, ◌<◌}
use native.Mathlib.Nat.{add-suc, suc-add, add-zero, zero-add, le_of_suc-le-suc, not-suc-le-zero}
use native.Mathlib.Omega.{arith}
use mathlib.Core.Path.{◌≡◌, refl, sym, ◌∙◌, ap}
use mathlib.Core.Bool.{Bool, true, false, not, ◌&&◌, and-false}
use Rattle.scanline.specs.Drawing.{picture_fits}
use mathlib.Core.List.{List}
use borrow.Author.Tests.{ltb-true, ltb-false, eq-eqb, ne_eqb}
use lib.Dec.{eqb, ltb}
use lib.ListN.{get_or, drop, length}
use lib.Seq.{get_or-take, get_or-drop}
use Rattle.std.specs.List.{between}
use Rattle.panel.specs.Widen.{pixel_of, pixel_in}
use Rattle.std.specs.Prelude.{None, Some}
use Rattle.picture_compare.specs.Differences.{first_pixel, first_difference}

-- ---- the first of some pixels

pub first_found : (p : ℕ → Bool) (from n k : ℕ) → k < n → ((i : ℕ) → i < k → p (from + i) ≡ false) → p (from + k) ≡ true
    → first_pixel p from n ≡ Some (record { line = (from + k) / 720; pixel = (from + k) % 720 })
unfolding first_pixel
first_found p from zero k l h e = absurd (not-suc-le-zero l)
first_found p from (suc n) zero l h e = rw (rw add-zero at e, add-zero)
first_found p from (suc n) (suc k) l h e =
    let z : p from ≡ false = rw add-zero at (h zero (omega arith)) in
    rw (z, add-suc, ← suc-add) (first_found p (suc from) n k (le_of_suc-le-suc l) (λ i m. rw (suc-add, ← add-suc) (h (suc i) (omega arith))) (rw (suc-add, ← add-suc) e))

pub first_same : (p : ℕ → Bool) (from n : ℕ) → ((i : ℕ) → i < n → p (from + i) ≡ false) → first_pixel p from n ≡ None
unfolding first_pixel
first_same p from zero h = refl
first_same p from (suc n) h =
    let z : p from ≡ false = rw add-zero at (h zero (omega arith)) in
    rw z (first_same p (suc from) n (λ i m. rw (suc-add, ← add-suc) (h (suc i) (omega arith))))

-- ---- two pictures

-- whether pixel j differs
unfoldable pub differs : List ℕ → List ℕ → ℕ → Bool
differs a b j = not (eqb (pixel_in a j) (pixel_in b j))

-- the first n bytes are equal
pub Alike : List ℕ → List ℕ → ℕ → Type 0
Alike a b n = (m : ℕ) → m < n → get_or a m 0 ≡ get_or b m 0

-- 720 bytes of a picture from byte n on
part_at : (xs : List ℕ) (n k : ℕ) → k < 720 → get_or (between n (n + 720) xs) k 0 ≡ get_or xs (n + k) 0
part_at xs n k l = get_or-take (n + 720 - n) (drop n xs) k 0 (omega arith) ∙ get_or-drop n xs k 0

module _ (a b : List ℕ) where
  -- pixel k of byte m
  pixel_same : (m k : ℕ) → k < 8 → pixel_of (get_or a m 0) k ≡ pixel_of (get_or b m 0) k → differs a b (8 * m + k) ≡ false
  unfolding differs pixel_in
  pixel_same m k l e =
      let d : (8 * m + k) / 8 ≡ m = omega arith in
      let r : (8 * m + k) % 8 ≡ k = omega arith in
      rw (d, r, eq-eqb _ _ e)

  pixel_other : (m k : ℕ) → k < 8 → (pixel_of (get_or a m 0) k ≡ pixel_of (get_or b m 0) k → ⊥) → differs a b (8 * m + k) ≡ true
  unfolding differs pixel_in
  pixel_other m k l e =
      let d : (8 * m + k) / 8 ≡ m = omega arith in
      let r : (8 * m + k) % 8 ≡ k = omega arith in
      rw (d, r, ne_eqb _ _ e)

  pixels_same : (n j : ℕ) → Alike a b n → j / 8 < n → differs a b j ≡ false
  unfolding differs pixel_in Alike
  pixels_same n j h l = rw (h (j / 8) l, eq-eqb (pixel_of (get_or b (j / 8) 0) (j % 8)) (pixel_of (get_or b (j / 8) 0) (j % 8)) refl)

  pub alike_none : Alike a b 0
  unfolding Alike
  alike_none m l = absurd (not-suc-le-zero l)

  -- i bytes more
  pub alike_on : (n i : ℕ) → Alike a b n → ((k : ℕ) → k < i → get_or a (n + k) 0 ≡ get_or b (n + k) 0) → Alike a b (n + i)
  unfolding Alike
  alike_on n i h l m s = go (ltb m n) refl
    where
      go : (t : Bool) → ltb m n ≡ t → get_or a m 0 ≡ get_or b m 0
      go true q = h m (ltb-true m n q)
      go false q =
          let ge = ltb-false m n q in
          let e : m ≡ n + (m - n) = omega arith in
          rw e (l (m - n) (omega arith))

  -- the next byte of a line, the next line, and the next eight
  pub alike_next : (L i : ℕ) → Alike a b (L * 90 + i) → get_or a (L * 90 + i) 0 ≡ get_or b (L * 90 + i) 0 → Alike a b (L * 90 + (i + 1))
  alike_next L i h e =
      let z : L * 90 + (i + 1) ≡ L * 90 + i + 1 = omega arith in
      rw z (alike_on (L * 90 + i) 1 h (λ k m. let k0 : k ≡ 0 = omega arith in rw (k0, add-zero) e))

  pub alike_line : (L i : ℕ) → i ≡ 90 → Alike a b (L * 90 + i) → Alike a b ((L + 1) * 90)
  alike_line L i e h = let z : (L + 1) * 90 ≡ L * 90 + i = omega arith in rw z h

  pub alike_eight : (L : ℕ) → Alike a b (L * 90) → between (L * 90) (L * 90 + 720) a ≡ between (L * 90) (L * 90 + 720) b → Alike a b ((L + 8) * 90)
  alike_eight L h q =
      let z : (L + 8) * 90 ≡ L * 90 + 720 = omega arith in
      rw z
      (alike_on (L * 90) 720 h
      (λ k m. sym (part_at a (L * 90) k m) ∙ ap (λ (xs : List ℕ). get_or xs k 0) q ∙ part_at b (L * 90) k m))

  pub position_same : Alike a b 23040 → None ≡ first_difference a b
  unfolding first_difference differs
  position_same h = sym (first_same (differs a b) 0 184320 (λ i l. rw zero-add (pixels_same 23040 i h (omega arith))))

  -- byte i of a line is the first that differs, and k its first pixel that does
  module _ (L i k : ℕ) (h_l : L < 256) (hi : i < 90) (hk : k < 8) (h : Alike a b (L * 90 + i))
      (left : (j : ℕ) → j < k → pixel_of (get_or a (L * 90 + i) 0) j ≡ pixel_of (get_or b (L * 90 + i) 0) j)
      (here : pixel_of (get_or a (L * 90 + i) 0) k ≡ pixel_of (get_or b (L * 90 + i) 0) k → ⊥) where
    before : (j : ℕ) → j < 8 * (L * 90 + i) + k → differs a b j ≡ false
    before j l = go (ltb (j / 8) (L * 90 + i)) refl
      where
        go : (t : Bool) → ltb (j / 8) (L * 90 + i) ≡ t → differs a b j ≡ false
        go true q = pixels_same (L * 90 + i) j h (ltb-true (j / 8) (L * 90 + i) q)
        go false q =
            let ge = ltb-false (j / 8) (L * 90 + i) q in
            let e : j ≡ 8 * (L * 90 + i) + (j - 8 * (L * 90 + i)) = omega arith in
            rw e (pixel_same (L * 90 + i) (j - 8 * (L * 90 + i)) (omega arith) (left (j - 8 * (L * 90 + i)) (omega arith)))

    pub position_found : Some (record { line = L; pixel = 8 * i + k }) ≡ first_difference a b
    unfolding first_difference differs
    position_found =
        let d : (8 * (L * 90 + i) + k) / 720 ≡ L = omega arith in
        let r : (8 * (L * 90 + i) + k) % 720 ≡ 8 * i + k = omega arith in
        sym
        (first_found (differs a b) 0 184320 (8 * (L * 90 + i) + k) (omega arith) (λ j l. rw zero-add (before j l)) (rw zero-add (pixel_other (L * 90 + i) k hk here))
        ∙ rw (zero-add, d, r))

  -- the second picture has a wrong length
  pub second_unfit : (length b ≡ 23040 → ⊥) → (picture_fits (length a) && picture_fits (length b)) ≡ false
  unfolding picture_fits
  second_unfit h = rw (ne_eqb (length b) 23040 h, and-false)
