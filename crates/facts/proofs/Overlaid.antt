-- Laws of `overlaid`: a list with some of its elements replaced by a rule of their index.
-- Assumes nothing.
use Prim.Native.Nat.{ℕ, zero, suc, ◌+◌, ◌≤◌, ◌<◌}
use native.Mathlib.Nat.{add-suc, suc-add, add-zero, zero-add, le_of_suc-le-suc, not-suc-le-zero}
use native.Mathlib.Omega.{arith}
use mathlib.Core.Path.{◌≡◌, refl, sym, ◌∙◌, ap}
use mathlib.Core.Bool.{Bool, true, false, cond, ◌&&◌, ◌||◌}
use mathlib.Core.List.{List, [], ◌∷◌}
use borrow.Author.Tests.{eqb-true, eqb-false, ltb-true, ltb-false, lt-ltb, le-ltb, le-leb, leb-true}
use lib.Dec.{eqb, ltb, leb}
use lib.ListN.{length, get_or, set, length-set}
use lib.Seq.{ext_get_or, get_or-set_same, get_or-set_other}
use Rattle.facts.specs.Lists.{overlaid_from, overlaid}

from_length : (q : ℕ → Bool) (f : ℕ → ℕ) (from : ℕ) (xs : List ℕ) → length (overlaid_from q f from xs) ≡ length xs
unfolding overlaid_from
from_length q f from [] = refl
from_length q f from (x ∷ xs) = ap suc (from_length q f (suc from) xs)

from_at : (q : ℕ → Bool) (f : ℕ → ℕ) (from : ℕ) (xs : List ℕ) (k : ℕ) → k < length xs
    → get_or (overlaid_from q f from xs) k 0 ≡ cond (q (from + k)) (f (from + k)) (get_or xs k 0)
unfolding overlaid_from
from_at q f from [] k h = absurd (not-suc-le-zero h)
from_at q f from (x ∷ xs) zero h = rw add-zero
from_at q f from (x ∷ xs) (suc k) h = rw (add-suc, ← suc-add) (from_at q f (suc from) xs k (le_of_suc-le-suc h))

pub overlaid_length : (q : ℕ → Bool) (f : ℕ → ℕ) (xs : List ℕ) → length (overlaid q f xs) ≡ length xs
unfolding overlaid
overlaid_length q f xs = from_length q f 0 xs

pub overlaid_at : (q : ℕ → Bool) (f : ℕ → ℕ) (xs : List ℕ) (k : ℕ) → k < length xs → get_or (overlaid q f xs) k 0 ≡ cond (q k) (f k) (get_or xs k 0)
unfolding overlaid
overlaid_at q f xs k h = rw zero-add at (from_at q f 0 xs k h)

-- a list that has the elements of `overlaid` is it
pub overlaid_make : (q : ℕ → Bool) (f : ℕ → ℕ) (xs ys : List ℕ) → length ys ≡ length xs
    → ((k : ℕ) → k < length xs → get_or ys k 0 ≡ cond (q k) (f k) (get_or xs k 0)) → ys ≡ overlaid q f xs
overlaid_make q f xs ys l h =
    ext_get_or 0 ys (overlaid q f xs) (l ∙ sym (overlaid_length q f xs)) (λ k s. h k (omega arith) ∙ sym (overlaid_at q f xs k (omega arith)))

-- no index passes: the list itself
pub overlaid_none : (q : ℕ → Bool) (f : ℕ → ℕ) (xs : List ℕ) → ((k : ℕ) → k < length xs → q k ≡ false) → overlaid q f xs ≡ xs
overlaid_none q f xs h = sym (overlaid_make q f xs xs refl (λ k l. ap (λ (b : Bool). cond b (f k) (get_or xs k 0)) (sym (h k l))))

-- tests that agree, and rules that agree where the test holds
pub overlaid_same : (q p : ℕ → Bool) (f g : ℕ → ℕ) (xs : List ℕ) → ((k : ℕ) → k < length xs → q k ≡ p k)
    → ((k : ℕ) → k < length xs → p k ≡ true → f k ≡ g k) → overlaid q f xs ≡ overlaid p g xs
overlaid_same q p f g xs e r =
    overlaid_make p g xs (overlaid q f xs) (overlaid_length q f xs)
    (λ k l. overlaid_at q f xs k l ∙ ap (λ (b : Bool). cond b (f k) (get_or xs k 0)) (e k l) ∙ rule k l (p k) refl)
  where
    rule : (k : ℕ) → k < length xs → (b : Bool) → p k ≡ b → cond b (f k) (get_or xs k 0) ≡ cond b (g k) (get_or xs k 0)
    rule k l true h = r k l h
    rule k l false h = refl

-- twice: the later rule is seen first
pub overlaid_twice : (q p : ℕ → Bool) (f g : ℕ → ℕ) (xs : List ℕ) (k : ℕ) → k < length xs
    → get_or (overlaid q f (overlaid p g xs)) k 0 ≡ cond (q k) (f k) (cond (p k) (g k) (get_or xs k 0))
overlaid_twice q p f g xs k l =
    overlaid_at q f (overlaid p g xs) k (rw overlaid_length l) ∙ ap (λ (x : ℕ). cond (q k) (f k) x) (overlaid_at p g xs k l)

-- twice by one rule
either : (a b : Bool) (x y : ℕ) → cond a x (cond b x y) ≡ cond (a || b) x y
either true b x y = refl
either false b x y = refl

pub overlaid_or : (q p : ℕ → Bool) (f : ℕ → ℕ) (xs : List ℕ) → overlaid q f (overlaid p f xs) ≡ overlaid (λ (k : ℕ). q k || p k) f xs
overlaid_or q p f xs =
    overlaid_make (λ (k : ℕ). q k || p k) f xs (overlaid q f (overlaid p f xs)) (overlaid_length q f (overlaid p f xs) ∙ overlaid_length p f xs)
    (λ k l. overlaid_twice q p f f xs k l ∙ either (q k) (p k) (f k) (get_or xs k 0))

-- a store by the rule: one index more
pub overlaid_set : (q : ℕ → Bool) (f : ℕ → ℕ) (xs : List ℕ) (k : ℕ) → set (overlaid q f xs) k (f k) ≡ overlaid (λ (j : ℕ). eqb j k || q j) f xs
overlaid_set q f xs k =
    overlaid_make (λ (j : ℕ). eqb j k || q j) f xs (set (overlaid q f xs) k (f k)) (simp (length-set, overlaid_length)) (λ j l. go j l (eqb j k) refl)
  where
    go : (j : ℕ) → j < length xs → (b : Bool) → eqb j k ≡ b → get_or (set (overlaid q f xs) k (f k)) j 0 ≡ cond (b || q j) (f j) (get_or xs j 0)
    go j l true e =
        let z : j ≡ k = eqb-true j k e in
        rw z (get_or-set_same (overlaid q f xs) k (f k) 0 (rw overlaid_length (omega arith)))
    go j l false e = get_or-set_other (overlaid q f xs) k j (f k) 0 (λ z. eqb-false j k e z) ∙ overlaid_at q f xs j l

-- the indexes from lo to hi - 1
unfoldable pub between : ℕ → ℕ → ℕ → Bool
between lo hi k = leb lo k && ltb k hi

pub between_in : (lo hi k : ℕ) → between lo hi k ≡ true → (lo ≤ k) × (k < hi)
unfolding between
between_in lo hi k h = go (leb lo k) refl h
  where
    go : (b : Bool) → leb lo k ≡ b → (b && ltb k hi) ≡ true → (lo ≤ k) × (k < hi)
    go true e f = (leb-true lo k e, ltb-true k hi f)
    go false e f = let z : ◌≡◌ {A = ℕ} 0 1 = cc in absurd (omega arith)

between_none : (lo hi k : ℕ) → hi ≤ lo → between lo hi k ≡ false
unfolding between
between_none lo hi k h = go (leb lo k) refl
  where
    go : (b : Bool) → leb lo k ≡ b → (b && ltb k hi) ≡ false
    go true e = le-ltb k hi (omega (arith, leb-true lo k e))
    go false e = refl

between_more : (lo hi k : ℕ) → lo ≤ hi → (eqb k hi || between lo hi k) ≡ between lo (hi + 1) k
unfolding between
between_more lo hi k h = go (eqb k hi) refl
  where
    go : (b : Bool) → eqb k hi ≡ b → (b || (leb lo k && ltb k hi)) ≡ (leb lo k && ltb k (hi + 1))
    go true e = let z = eqb-true k hi e in rw (le-leb lo k (omega arith), lt-ltb k (hi + 1) (omega arith))
    go false e = ap (λ (b : Bool). leb lo k && b) (last (ltb k hi) refl)
      where
        last : (b : Bool) → ltb k hi ≡ b → b ≡ ltb k (hi + 1)
        last true f = sym (lt-ltb k (hi + 1) (omega (arith, ltb-true k hi f)))
        last false f = let ne : (k ≡ hi → ⊥) = eqb-false k hi e in sym (le-ltb k (hi + 1) (omega (arith, ltb-false k hi f)))

-- a loop that stores by the rule at first, first + 1, ..: its start and a turn
pub overlaid_start : (f : ℕ → ℕ) (xs : List ℕ) (first : ℕ) → xs ≡ overlaid (between first first) f xs
overlaid_start f xs first = sym (overlaid_none (between first first) f xs (λ k l. between_none first first k (omega arith)))

pub overlaid_next : (f : ℕ → ℕ) (xs ys : List ℕ) (first i v : ℕ) → ys ≡ overlaid (between first (first + i)) f xs → v ≡ f (first + i)
    → set ys (first + i) v ≡ overlaid (between first (first + (i + 1))) f xs
overlaid_next f xs ys first i v e r =
    let z : first + (i + 1) ≡ first + i + 1 = omega arith in
    rw (e, r, z)
    (overlaid_set (between first (first + i)) f xs (first + i)
    ∙ overlaid_same (λ (j : ℕ). eqb j (first + i) || between first (first + i) j) (between first (first + i + 1)) f f xs
    (λ k l. between_more first (first + i) k (omega arith))
    (λ k l t. refl))
