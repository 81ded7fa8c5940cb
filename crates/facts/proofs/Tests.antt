-- Laws of `any` and `every`, over any test.
-- Assumes nothing.
use Prim.Native.Nat.{ℕ, zero, suc, ◌+◌, ◌≤◌, ◌<◌}
use native.Mathlib.Nat.{add-suc, suc-add, add-zero, zero-add, le_of_suc-le-suc, not-suc-le-zero}
use native.Mathlib.Omega.{arith}
use mathlib.Core.Path.{◌≡◌, refl, sym, ◌∙◌, ap, ap₂}
use mathlib.Core.Bool.{Bool, true, false, ◌&&◌, and_assoc, and-true}
use borrow.Author.Tests.{eqb-true, eqb-false}
use lib.Dec.{eqb}
use Rattle.facts.specs.Tests.{any, every}
use Rattle.facts.proofs.Bools.{both, or_first, or_second, and_swap}

-- it holds of none: the answer is false
pub any_none : (p : ℕ → Bool) (from n : ℕ) → ((i : ℕ) → from ≤ i → i < from + n → p i ≡ false) → any p from n ≡ false
unfolding any
any_none p from zero h = refl
any_none p from (suc n) h = rw (h from (omega arith) (omega arith)) (any_none p (suc from) n (λ i lo hi. h i (omega arith) (omega arith)))

-- the answer is false: it holds of none
step : (p : ℕ → Bool) (from n : ℕ) → p from ≡ false → ((i : ℕ) → suc from ≤ i → i < suc from + n → p i ≡ false) → (i : ℕ) → from ≤ i → i < from + suc n → p i ≡ false
step p from n first later i lo hi = go (eqb i from) refl
  where
    go : (b : Bool) → eqb i from ≡ b → p i ≡ false
    go true e = ap p (eqb-true i from e) ∙ first
    go false e = let ne : (i ≡ from → ⊥) = eqb-false i from e in later i (omega arith) (omega arith)

pub any_false : (p : ℕ → Bool) (from n : ℕ) → any p from n ≡ false → (i : ℕ) → from ≤ i → i < from + n → p i ≡ false
unfolding any
any_false p from zero h i lo hi = let z : ◌≡◌ {A = ℕ} 0 1 = omega arith in cc
any_false p from (suc n) h i lo hi =
    step p from n (or_first (p from) (any p (suc from) n) h) (any_false p (suc from) n (or_second (p from) (any p (suc from) n) h)) i lo hi

-- it holds of one: the answer is true
pub any_some : (p : ℕ → Bool) (from n i : ℕ) → from ≤ i → i < from + n → p i ≡ true → any p from n ≡ true
any_some p from n i lo hi h = go (any p from n) refl
  where
    go : (b : Bool) → any p from n ≡ b → any p from n ≡ true
    go true e = e
    go false e = let z : p i ≡ false = any_false p from n e i lo hi in cc

-- two properties that agree on the numbers
pub any_same : (p q : ℕ → Bool) (from n : ℕ) → ((i : ℕ) → from ≤ i → i < from + n → p i ≡ q i) → any p from n ≡ any q from n
unfolding any
any_same p q from zero h = refl
any_same p q from (suc n) h =
    let e : p from ≡ q from = h from (omega arith) (omega arith) in
    let f : any p (suc from) n ≡ any q (suc from) n = any_same p q (suc from) n (λ i lo hi. h i (omega arith) (omega arith)) in
    rw (e, f)

-- a test of all numbers of a range: what it tells of each, and that it holds if it holds of each
pub every_at : (p : ℕ → Bool) (from n : ℕ) → every p from n ≡ true → (i : ℕ) → i < n → p (from + i) ≡ true
unfolding every
every_at p from zero h i l = absurd (not-suc-le-zero l)
every_at p from (suc n) h zero l = rw add-zero (both (p from) (every p (suc from) n) h).0
every_at p from (suc n) h (suc i) l =
    rw (add-suc, ← suc-add) (every_at p (suc from) n (both (p from) (every p (suc from) n) h).1 i (le_of_suc-le-suc l))

pub every_all : (p : ℕ → Bool) (from n : ℕ) → ((i : ℕ) → i < n → p (from + i) ≡ true) → every p from n ≡ true
unfolding every
every_all p from zero h = refl
every_all p from (suc n) h =
    rw (rw add-zero at (h zero (omega arith))) (every_all p (suc from) n (λ i l. rw (suc-add, ← add-suc) (h (suc i) (omega arith))))

-- two tests that agree on the numbers
pub every_agree : (p q : ℕ → Bool) (from n : ℕ) → ((i : ℕ) → i < n → p (from + i) ≡ q (from + i)) → every p from n ≡ every q from n
unfolding every
every_agree p q from zero h = refl
every_agree p q from (suc n) h =
    ap₂ ◌&&◌ (rw add-zero at (h zero (omega arith))) (every_agree p q (suc from) n (λ i l. rw (suc-add, ← add-suc) (h (suc i) (omega arith))))

-- a range in two parts
pub every_add : (p : ℕ → Bool) (from m n : ℕ) → every p from (m + n) ≡ (every p from m && every p (from + m) n)
unfolding every
every_add p from zero n = rw (zero-add, add-zero)
every_add p from (suc m) n =
    rw suc-add
    (ap (λ (b : Bool). p from && b) (every_add p (suc from) m n)
    ∙ sym (and_assoc (p from) (every p (suc from) m) (every p (suc from + m) n))
    ∙ ap (λ (k : ℕ). p from && every p (suc from) m && every p k n) (suc-add from m ∙ sym (add-suc from m)))

-- a test of two things is two tests
pub every_both : (p q : ℕ → Bool) (from n : ℕ) → every (λ (i : ℕ). p i && q i) from n ≡ (every p from n && every q from n)
unfolding every
every_both p q from zero = refl
every_both p q from (suc n) = rw (every_both p q (suc from) n) (and_swap (p from) (q from) (every p (suc from) n) (every q (suc from) n))

-- ---- of all numbers below n

pub below_next : (p : ℕ → Bool) (n : ℕ) → every p 0 (n + 1) ≡ (every p 0 n && p n)
unfolding every
below_next p n = every_add p 0 n 1 ∙ rw (zero-add, and-true)

module _ (p : ℕ → Bool) (n : ℕ) where
  pub below_at : (k : ℕ) → every p 0 n ≡ true → k < n → p k ≡ true
  below_at k h l = rw zero-add at (every_at p 0 n h k l)

  pub below_all : ((k : ℕ) → k < n → p k ≡ true) → every p 0 n ≡ true
  below_all h = every_all p 0 n (λ i l. rw zero-add (h i l))

  pub below_fails : (k : ℕ) → k < n → p k ≡ false → every p 0 n ≡ false
  below_fails k l h = go (every p 0 n) refl
    where
      go : (b : Bool) → every p 0 n ≡ b → b ≡ false
      go true e = let z : p k ≡ true = below_at k e l in cc
      go false e = refl

pub below_agree : (p q : ℕ → Bool) (n : ℕ) → ((k : ℕ) → k < n → p k ≡ q k) → every p 0 n ≡ every q 0 n
below_agree p q n h = every_agree p q 0 n (λ i l. rw zero-add (h i l))

-- one number more
pub below_more : (p : ℕ → Bool) (n : ℕ) → every p 0 n ≡ true → p n ≡ true → every p 0 (n + 1) ≡ true
below_more p n e h = below_all p (n + 1) (λ k l. go k l (eqb k n) refl)
  where
    go : (k : ℕ) → k < n + 1 → (b : Bool) → eqb k n ≡ b → p k ≡ true
    go k l true q = ap p (eqb-true k n q) ∙ h
    go k l false q = let z : (k ≡ n → ⊥) = eqb-false k n q in below_at p n k e (omega arith)
