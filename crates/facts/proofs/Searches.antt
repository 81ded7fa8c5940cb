-- Laws of `first_of`: the first number that a test holds of.
-- Assumes nothing.
use Prim.Native.Nat.{ℕ, zero, suc, ◌+◌, ◌-◌, ◌≤◌, ◌<◌}
use native.Mathlib.Numerals.{add-one}
use native.Mathlib.Omega.{arith}
use mathlib.Core.Path.{◌≡◌, refl, sym, ◌∙◌, ap}
use mathlib.Core.Bool.{Bool, true, false, not, cond, ◌&&◌}
use borrow.Author.Tests.{eqb-true, eqb-false}
use lib.Dec.{eqb}
use Rattle.std.specs.Prelude.{None, Some, is_none}
use Rattle.facts.specs.Tests.{every, first_of}

-- ---- a search up to n, number by number

module _ (p : ℕ → Bool) where
  pub first_start : (n : ℕ) → first_of p 0 n ≡ first_of p 0 (n - 0)
  first_start n = let z : n - 0 ≡ n = omega arith in rw z

  pub first_here : (n j : ℕ) → j < n → p j ≡ true → first_of p j (n - j) ≡ Some j
  unfolding first_of
  first_here n j l h = let z : n - j ≡ suc (n - j - 1) = omega arith in rw (z, h)

  pub first_next : (n j : ℕ) → j < n → p j ≡ false → first_of p j (n - j) ≡ first_of p (j + 1) (n - (j + 1))
  unfolding first_of
  first_next n j l h =
      let z : n - j ≡ suc (n - (j + 1)) = omega arith in
      rw (z, h, add-one)

  pub first_end : (n j : ℕ) → n ≤ j → first_of p j (n - j) ≡ None
  unfolding first_of
  first_end n j l = let z : n - j ≡ 0 = omega arith in rw z

-- ---- what the answer tells

-- none found: the test holds of none
pub first_nothing : (p : ℕ → Bool) (from n : ℕ) → is_none (first_of p from n) ≡ every (λ (j : ℕ). not (p j)) from n
unfolding first_of every
first_nothing p from zero = refl
first_nothing p from (suc n) = go (p from) (first_nothing p (suc from) n)
  where
    go : (x : Bool) → is_none (first_of p (suc from) n) ≡ every (λ (j : ℕ). not (p j)) (suc from) n
        → is_none (cond x (Some from) (first_of p (suc from) n)) ≡ (not x && every (λ (j : ℕ). not (p j)) (suc from) n)
    go true h = refl
    go false h = h

-- none of the numbers from `from` on before k
NoneBefore : (ℕ → Bool) → ℕ → ℕ → Type 0
NoneBefore p from k = (j : ℕ) → from ≤ j → j < k → p j ≡ false

none_more : (p : ℕ → Bool) (from k : ℕ) → p from ≡ false → NoneBefore p (suc from) k → NoneBefore p from k
unfolding NoneBefore
none_more p from k e h j lo hi = go (eqb j from) refl
  where
    go : (b : Bool) → eqb j from ≡ b → p j ≡ false
    go true q = ap p (eqb-true j from q) ∙ e
    go false q = let ne : (j ≡ from → ⊥) = eqb-false j from q in h j (omega arith) hi

pub found_none : (p : ℕ → Bool) (from n : ℕ) → first_of p from n ≡ None → (j : ℕ) → from ≤ j → j < from + n → p j ≡ false
unfolding first_of NoneBefore
found_none p from zero e j lo hi = absurd (omega arith)
found_none p from (suc n) e j lo hi = go (p from) refl e (found_none p (suc from) n)
  where
    go : (b : Bool) → p from ≡ b → cond b (Some from) (first_of p (suc from) n) ≡ None
        → (first_of p (suc from) n ≡ None → (i : ℕ) → suc from ≤ i → i < suc from + n → p i ≡ false) → p j ≡ false
    go true q f ih = let z : ◌≡◌ {A = ℕ} 0 1 = cc in absurd (omega arith)
    go false q f ih = none_more p from (suc from + n) q (ih f) j lo (omega arith)

-- k found: the test holds of it, and of none before it
pub record Found (p : ℕ → Bool) (from n k : ℕ) : Type 0 where
  pub low : from ≤ k
  pub high : k < from + n
  pub holds : p k ≡ true
  pub before : (j : ℕ) → from ≤ j → j < k → p j ≡ false

pub found_at : (p : ℕ → Bool) (from n k : ℕ) → first_of p from n ≡ Some k → Found p from n k
unfolding first_of NoneBefore
found_at p from zero k e = let z : ◌≡◌ {A = ℕ} 0 1 = cc in absurd (omega arith)
found_at p from (suc n) k e = go (p from) refl e (found_at p (suc from) n k)
  where
    go : (b : Bool) → p from ≡ b → cond b (Some from) (first_of p (suc from) n) ≡ Some k → (first_of p (suc from) n ≡ Some k → Found p (suc from) n k) → Found p from (suc n) k
    go true q f ih =
        let s : from ≡ k = cc in
        record { low = omega arith; high = omega arith; holds = ap p (sym s) ∙ q; before = λ j lo hi. absurd (omega arith) }
    go false q f ih =
        let r = ih f in
        record { low = omega (arith, r.low); high = omega (arith, r.high); holds = r.holds; before = none_more p from k q r.before }
