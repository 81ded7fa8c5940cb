-- Laws of refusals: the first of two that applies, and what a record that is not refused tells.
-- Assumes nothing.
use Prim.Native.Nat.{ℕ}
use native.Mathlib.Omega.{arith}
use mathlib.Core.Path.{◌≡◌, refl, sym, ◌∙◌, ap}
use mathlib.Core.Bool.{Bool, true, false, cond}
use mathlib.Core.List.{[], ◌∷◌}
use borrow.Author.Tests.{ne_eqb, eqb-true, eqb-false}
use lib.Dec.{eqb}
use Rattle.board.specs.declared.record.Board.{Board}
use Rattle.board.specs.Record.{good, record_refusal, first_refusal}

-- the first of two refusals that applies
pub first_two : (m n : ℕ) → first_refusal (m ∷ n ∷ []) ≡ cond (eqb m 0) n m
unfolding first_refusal
first_two m n = ap (λ (k : ℕ). cond (eqb m 0) k m) (go (eqb n 0) refl)
  where
    go : (t : Bool) → eqb n 0 ≡ t → cond t 0 n ≡ n
    go true e = sym (eqb-true n 0 e)
    go false e = refl

pub first_none : (m n : ℕ) → first_refusal (m ∷ n ∷ []) ≡ 0 → (m ≡ 0) × (n ≡ 0)
first_none m n e = go (eqb m 0) refl
  where
    go : (t : Bool) → eqb m 0 ≡ t → (m ≡ 0) × (n ≡ 0)
    go true f = (eqb-true m 0 f, rw f at (sym (first_two m n) ∙ e))
    go false f = absurd (eqb-false m 0 f (rw f at (sym (first_two m n) ∙ e)))

pub first_second : (m n : ℕ) → m ≡ 0 → first_refusal (m ∷ n ∷ []) ≡ n
first_second m n e = first_two m n ∙ rw e

pub first_first : (m n k : ℕ) → m ≡ k → (k ≡ 0 → ⊥) → first_refusal (m ∷ n ∷ []) ≡ k
first_first m n k e ne = first_two m n ∙ rw (e, ne_eqb k 0 ne)

-- of three it does not matter which two are looked at first
pub first_assoc : (a b c : ℕ) → first_refusal (a ∷ first_refusal (b ∷ c ∷ []) ∷ []) ≡ first_refusal (first_refusal (a ∷ b ∷ []) ∷ c ∷ [])
first_assoc a b c = rw (first_two a (first_refusal (b ∷ c ∷ [])), first_two b c, first_two (first_refusal (a ∷ b ∷ [])) c, first_two a b) (go (eqb a 0) refl)
  where
    go : (t : Bool) → eqb a 0 ≡ t → cond t (cond (eqb b 0) c b) a ≡ cond (eqb (cond t b a) 0) c (cond t b a)
    go true e = refl
    go false e = rw e

-- a test that is not refused holds
pub not_refused : (t : Bool) (n : ℕ) → (n ≡ 0 → ⊥) → cond t 0 n ≡ 0 → t ≡ true
not_refused true n ne e = refl
not_refused false n ne e = absurd (ne e)

pub good_record : (b : Board) → good b ≡ true → record_refusal b ≡ 0
unfolding record_refusal
good_record b g = rw g

pub record_good : (b : Board) → record_refusal b ≡ 0 → good b ≡ true
unfolding record_refusal
record_good b e = not_refused (good b) 1 (λ (z : ◌≡◌ {A = ℕ} 1 0). omega arith) e
