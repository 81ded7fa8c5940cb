-- Frames with the same pairs of bench and number: where a pair stands, and whether pairs stand once.
-- Assumes nothing.
use Prim.Native.Nat.{ℕ, zero, suc, ◌+◌, ◌≤◌, ◌<◌}
use native.Mathlib.Omega.{arith}
use mathlib.Core.Path.{◌≡◌, refl, sym, ap, ◌∙◌}
use mathlib.Core.Bool.{Bool, true, false, not, cond, true≢false}
use borrow.Author.Tests.{eqb-true, eqb-false}
use lib.Dec.{eqb}
use Rattle.std.specs.Prelude.{Option, Some, None, is_none, MatchOption}
use Rattle.facts.specs.Tests.{first_of}
use Rattle.facts.proofs.Tests.{below_agree}
use Rattle.facts.proofs.Searches.{first_nothing, found_at}
use Rattle.archive.specs.Format.{Frame}
use Rattle.archive.specs.Sound.{has_pair, is_new, fresh}

-- a pair is new exactly if the search finds none
pub none_new : (f : ℕ → Frame) (bench number n : ℕ) → is_none (first_of (has_pair f bench number) 0 n) ≡ is_new f bench number n
unfolding is_new
none_new f bench number n = first_nothing (has_pair f bench number) 0 n

-- the same of what a search gave
module _ (f : ℕ → Frame) (bench number n : ℕ) (i : Option ℕ) (is : i ≡ first_of (has_pair f bench number) 0 n) where
  pub found_there : (k : ℕ) → i ≡ Some k → false ≡ is_new f bench number n
  found_there k e = ap is_none (sym e ∙ is) ∙ none_new f bench number n

  pub found_none : i ≡ None → true ≡ is_new f bench number n
  found_none e = ap is_none (sym e ∙ is) ∙ none_new f bench number n

pub nothing_at : (k : ℕ) → ◌≡◌ {A = Option ℕ} None (Some k) → ⊥
nothing_at k e = true≢false (ap is_none e)

pub first_at : (p : ℕ → Bool) (from n k : ℕ) → first_of p from n ≡ Some k → (k < from + n) × (p k ≡ true)
first_at p from n k e = let h = found_at p from n k e in (h.high, h.holds)

none_first : (p : ℕ → Bool) (from n : ℕ) → ((k : ℕ) → from ≤ k → k < from + n → p k ≡ false) → first_of p from n ≡ None
unfolding first_of
none_first p from zero h = refl
none_first p from (suc n) h = rw (h from (omega arith) (omega arith), none_first p (suc from) n (λ k lo hi. h k (omega arith) (omega arith)))

some_first : (p : ℕ → Bool) (from n i : ℕ) → from ≤ i → i < from + n → p i ≡ true → ((k : ℕ) → from ≤ k → k < i → p k ≡ false) → first_of p from n ≡ Some i
unfolding first_of
some_first p from zero i lo hi t h = absurd (omega arith)
some_first p from (suc n) i lo hi t h =
    go (eqb from i) refl (λ (l : suc from ≤ i). some_first p (suc from) n i l (omega arith) t (λ k a b. h k (omega arith) b))
  where
    go : (b : Bool) → eqb from i ≡ b → (suc from ≤ i → first_of p (suc from) n ≡ Some i) → cond (p from) (Some from) (first_of p (suc from) n) ≡ Some i
    go true e f = let z : from ≡ i = eqb-true from i e in rw (z, t)
    go false e f = let ne : (from ≡ i → ⊥) = eqb-false from i e in rw (h from (omega arith) (omega arith)) (f (omega arith))

-- what a search may say of its answer makes it the first
pub first_is : (p : ℕ → Bool) (n : ℕ) (r : Option ℕ)
    → MatchOption r ((k : ℕ) → k < n → p k ≡ false) (λ i. (i < n) × (p i ≡ true) × ((k : ℕ) → k < i → p k ≡ false)) → r ≡ first_of p 0 n
first_is p n None h = sym (none_first p 0 n (λ k lo hi. h k (omega arith)))
first_is p n (Some i) h = sym (some_first p 0 n i (omega arith) (omega (arith, h.0)) h.1 (λ k lo hi. h.2 k hi))

first_agree : (p q : ℕ → Bool) (from n : ℕ) → ((j : ℕ) → from ≤ j → j < from + n → p j ≡ q j) → first_of p from n ≡ first_of q from n
unfolding first_of
first_agree p q from zero h = refl
first_agree p q from (suc n) h =
    rw (h from (omega arith) (omega arith), first_agree p q (suc from) n (λ j lo hi. h j (omega arith) (omega arith)))

-- the first n of two rows of frames have the same pairs
pub record Alike (f g : ℕ → Frame) (n : ℕ) : Type 0 where
  pub bench : (j : ℕ) → j < n → (f j).bench ≡ (g j).bench
  pub number : (j : ℕ) → j < n → (f j).number ≡ (g j).number

module _ (f g : ℕ → Frame) (n : ℕ) (s : Alike f g n) where
  pair_alike : (bench number j : ℕ) → j < n → has_pair f bench number j ≡ has_pair g bench number j
  unfolding has_pair
  pair_alike bench number j l = rw (s.bench j l, s.number j l)

  pub new_alike : (bench number k : ℕ) → k ≤ n → is_new f bench number k ≡ is_new g bench number k
  unfolding is_new
  new_alike bench number k l =
      below_agree (λ (j : ℕ). not (has_pair f bench number j)) (λ (j : ℕ). not (has_pair g bench number j)) k
      (λ j m. ap not (pair_alike bench number j (omega arith)))

  pub fresh_alike : (k : ℕ) → k < n → fresh f k ≡ fresh g k
  unfolding fresh
  fresh_alike k l = rw (s.bench k l, s.number k l) (new_alike (g k).bench (g k).number k (omega arith))

  pub first_alike : (bench number : ℕ) → first_of (has_pair f bench number) 0 n ≡ first_of (has_pair g bench number) 0 n
  first_alike bench number =
      first_agree (has_pair f bench number) (has_pair g bench number) 0 n (λ j lo hi. pair_alike bench number j (omega arith))
