-- What a kind's ranges tell of its number and its value, and what names no step: it is refused as the step in its place is.
-- Assumes nothing.
use Prim.Native.Nat.{ℕ, suc, ◌≤◌}
use native.Mathlib.Omega.{arith}
use mathlib.Core.Path.{◌≡◌, refl, sym, ◌∙◌, ap}
use mathlib.Core.Bool.{Bool, true, false, cond, ◌&&◌}
use mathlib.Core.List.{List, [], ◌∷◌}
use borrow.Author.Tests.{leb-true}
use lib.Dec.{eqb, leb}
use lib.ListN.{length}
use Rattle.std.specs.Prelude.{Option, Some, None}
use Rattle.facts.proofs.Bools.{both}
use Rattle.board.specs.declared.record.Board.{Board}
use Rattle.board.specs.Record.{first_refusal}
use Rattle.board.proofs.Refusals.{first_two}
use Rattle.step_rules.specs.declared.Step.{Step}
use Rattle.step_rules.specs.declared.Step.TheVariants.{Key}
use Rattle.step_rules.specs.Answers.{kind_refusal, lent_refusal, own_refusal, step_refusal, step_answer, step_ram}
use Rattle.step_rules.specs.Decoding.{largest_number, largest_value, in_range, step_of, numbers_answer, numbers_ram}

-- the ranges of the kind that it is
pub of_kind : (k c n v : ℕ) (r : Bool) → k ≡ c → r ≡ in_range k n v → r ≡ true → in_range c n v ≡ true
of_kind k c n v r e t h = sym (t ∙ ap (λ (x : ℕ). in_range x n v) e) ∙ h

module _ (k n v : ℕ) (h : in_range k n v ≡ true) where
  kind_below : (1 ≤ k) × (k ≤ 9)
  unfolding in_range
  kind_below = let p = both (leb 1 k) (leb k 9) (both (leb 1 k && leb k 9) _ h).0 in (leb-true 1 k p.0, leb-true k 9 p.1)

  pub number_most : n ≤ largest_number k
  unfolding in_range
  number_most = leb-true n (largest_number k) (both (leb n (largest_number k)) _ (both (leb 1 k && leb k 9) _ h).1).0

  pub value_most : v ≤ largest_value k
  unfolding in_range
  value_most = leb-true v (largest_value k) (both (leb n (largest_number k)) _ (both (leb 1 k && leb k 9) _ h).1).1

-- there are nine kinds
past : (m k : ℕ) → m ≤ k → (k ≡ m → ⊥) → suc m ≤ k
past m k l n = omega arith

nobody : (k : ℕ) → 1 ≤ k → k ≤ 9 → (k ≡ 1 → ⊥) × (k ≡ 2 → ⊥) × (k ≡ 3 → ⊥) × (k ≡ 4 → ⊥) × (k ≡ 5 → ⊥) × (k ≡ 6 → ⊥) × (k ≡ 7 → ⊥) × (k ≡ 8 → ⊥) × (k ≡ 9 → ⊥) → ⊥
nobody k lo hi n =
    let ten : 10 ≤ k = past 9 k (past 8 k (past 7 k (past 6 k (past 5 k (past 4 k (past 3 k (past 2 k (past 1 k lo n.0) n.1) n.2) n.3) n.4) n.5) n.6) n.7) n.8 in
    none ten hi
  where
    none : 10 ≤ k → k ≤ 9 → ⊥
    none l h = omega arith

pub no_kind : (k n v : ℕ) → (k ≡ 1 → ⊥) × (k ≡ 2 → ⊥) × (k ≡ 3 → ⊥) × (k ≡ 4 → ⊥) × (k ≡ 5 → ⊥) × (k ≡ 6 → ⊥) × (k ≡ 7 → ⊥) × (k ≡ 8 → ⊥) × (k ≡ 9 → ⊥) → in_range k n v ≡ false
no_kind k n v d = go (in_range k n v) refl
  where
    go : (t : Bool) → in_range k n v ≡ t → t ≡ false
    go true e = let b = kind_below k n v e in absurd (nobody k b.0 b.1 d)
    go false e = refl

-- where 3 is the last of the refusals one is given
pub three_refused : (m : ℕ) → eqb (first_refusal (m ∷ 3 ∷ [])) 0 ≡ false
three_refused m = rw (first_two m 3) (go (eqb m 0) refl)
  where
    go : (t : Bool) → eqb m 0 ≡ t → eqb (cond t 3 m) 0 ≡ false
    go true e = refl
    go false e = e

module _ (b : Board) (ram boot : List ℕ) where
  three : step_refusal b ram boot (Key 16 0) ≡ first_refusal (lent_refusal b (length ram) (length boot) ∷ 3 ∷ [])
  unfolding step_refusal own_refusal kind_refusal first_refusal
  three = refl

  no_step_answer : step_answer b ram boot (Key 16 0) ≡ numbers_answer b ram boot None
  unfolding step_answer numbers_answer
  no_step_answer = rw (three, three_refused (lent_refusal b (length ram) (length boot)))

  no_step_ram : step_ram b ram boot (Key 16 0) ≡ ram
  unfolding step_ram
  no_step_ram = rw (three, three_refused (lent_refusal b (length ram) (length boot)))

  pub numbers_answer_lem : (d : Option Step) → step_answer b ram boot (step_of d) ≡ numbers_answer b ram boot d
  unfolding step_of numbers_answer
  numbers_answer_lem (Some s) = refl
  numbers_answer_lem None = no_step_answer

  pub numbers_ram_lem : (d : Option Step) → step_ram b ram boot (step_of d) ≡ numbers_ram b ram boot d
  unfolding step_of numbers_ram
  numbers_ram_lem (Some s) = refl
  numbers_ram_lem None = no_step_ram
