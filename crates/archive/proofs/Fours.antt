-- Pairs that stand once, by fours: a pass over the entries before four of them, the four among themselves, and the fours of an archive.
-- Assumes nothing.
use Prim.Native.Nat.{ℕ, suc, ◌+◌, ◌*◌, ◌/◌, ◌%◌, ◌≤◌}
use native.Mathlib.Nat.{zero-add}
use native.Mathlib.Numerals.{add-one}
use native.Mathlib.Omega.{arith}
use mathlib.Core.Path.{◌≡◌, refl, sym, ap, ◌∙◌}
use mathlib.Core.List.{List, []}
use mathlib.Core.Bool.{Bool, true, false, not, ◌&&◌, ◌||◌, and-false, and-true, and_assoc, and_self}
use borrow.Author.Tests.{not-true, not-false}
use lib.ListN.{length, get_or, take}
use lib.Seq.{get_or-take, length-take-le}
use Rattle.facts.specs.Tests.{every}
use Rattle.facts.proofs.Bools.{not_or}
use Rattle.facts.proofs.Tests.{every_add, every_both, below_next}
use Rattle.byte_rows.specs.Numbers.{at4}
use Rattle.archive.specs.declared.numbers.Pair.{Pair}
use Rattle.archive.specs.Format.{Frame}
use Rattle.archive.specs.Sound.{has_pair, is_new, fresh}
use Rattle.archive.specs.Rows.{named, pair_in, same_pair}
use Rattle.archive.proofs.Pairs.{Alike, new_alike}

-- ---- one pass for four tests, of which none is to hold

unfoldable pub none_of : (ℕ → Bool) → (ℕ → Bool) → (ℕ → Bool) → (ℕ → Bool) → ℕ → Bool
none_of t u v w j = not (t j) && not (u j) && not (v j) && not (w j)

module _ (t u v w : ℕ → Bool) where
  pub four_turn : (j : ℕ) (seen x : Bool) → every (none_of t u v w) 0 j ≡ not seen → x ≡ (t j || u j || v j || w j)
      → every (none_of t u v w) 0 (j + 1) ≡ not (seen || x)
  unfolding none_of
  four_turn j seen x h is = below_next (none_of t u v w) j ∙ rw (h, is, not_or, not_or, not_or, not_or)

  pub four_end : (n : ℕ)
      → every (none_of t u v w) 0 n
      ≡ (every (λ (j : ℕ). not (t j)) 0 n && every (λ (j : ℕ). not (u j)) 0 n && every (λ (j : ℕ). not (v j)) 0 n && every (λ (j : ℕ). not (w j)) 0 n)
  unfolding none_of
  four_end n =
      every_both (λ (j : ℕ). not (t j) && not (u j) && not (v j)) (λ (j : ℕ). not (w j)) 0 n
      ∙ rw (every_both (λ (j : ℕ). not (t j) && not (u j)) (λ (j : ℕ). not (v j)) 0 n, every_both (λ (j : ℕ). not (t j)) (λ (j : ℕ). not (u j)) 0 n)

-- ---- the pair of a frame, held against those before it

abbrev has : (ℕ → Frame) → Pair → ℕ → Bool
has f p j = has_pair f p.bench p.number j

abbrev new : (ℕ → Frame) → Pair → ℕ → Bool
new f p n = is_new f p.bench p.number n

abbrev pair_of : (ℕ → Frame) → ℕ → Pair
pair_of f k = record { bench = (f k).bench; number = (f k).number }

fresh_is : (f : ℕ → Frame) (k : ℕ) (p : Pair) → p ≡ pair_of f k → fresh f k ≡ new f p k
unfolding fresh
fresh_is f k p is = rw is

-- the same pair four times
pub fresh_one : (f : ℕ → Frame) (k : ℕ) (p : Pair) (x : Bool) → p ≡ pair_of f k → x ≡ (new f p k && new f p k && new f p k && new f p k) → x ≡ fresh f k
fresh_one f k p x is h = rw (fresh_is f k p is) (h ∙ rw (and_self, and_self, and_self))

module _ (f : ℕ → Frame) (p : Pair) where
  new_one : (k : ℕ) → new f p (k + 1) ≡ (new f p k && not (has f p k))
  unfolding is_new
  new_one k = below_next (λ (j : ℕ). not (has f p j)) k

  new_two : (k : ℕ) → new f p (k + 2) ≡ (new f p k && not (has f p k) && not (has f p (k + 1)))
  new_two k = let z : k + 2 ≡ k + 1 + 1 = omega arith in rw (z, new_one (k + 1), new_one k)

  new_three : (k : ℕ) → new f p (k + 3) ≡ (new f p k && not (has f p k) && not (has f p (k + 1)) && not (has f p (k + 2)))
  new_three k = let z : k + 3 ≡ k + 2 + 1 = omega arith in rw (z, new_one (k + 2), new_two k)

-- ---- four entries

every_four : (p : ℕ → Bool) (k : ℕ) → every p k 4 ≡ (p k && p (k + 1) && p (k + 2) && p (k + 3))
unfolding every
every_four p k =
    let two : k + 2 ≡ suc (suc k) = omega arith in
    let three : k + 3 ≡ suc (suc (suc k)) = omega arith in
    rw (add-one, two, three, and-true, and_assoc, and_assoc)

-- what was told of each against those before all four, and of the four among themselves
by_parts : (a b c d x y z u v w : Bool)
    → (a && (b && not x) && (c && not y && not z) && (d && not u && not v && not w)) ≡ (a && b && c && d && not (x || (y || z) || (u || v || w)))
by_parts true true true true x y z u v w = rw (not_or, not_or, not_or, not_or, not_or)
by_parts true true true false x y z u v w = rw and-false
by_parts true true false d x y z u v w = rw and-false
by_parts true false c d x y z u v w = refl
by_parts false b c d x y z u v w = refl

module _ (f : ℕ → Frame) (k : ℕ) (p q r s : Pair) (first : p ≡ pair_of f k) (second : q ≡ pair_of f (k + 1)) (third : r ≡ pair_of f (k + 2)) (fourth : s ≡ pair_of f (k + 3)) where
  four_is : every (fresh f) k 4
      ≡ (new f p k && new f q k && new f r k && new f s k && not (has f q k || (has f r k || has f r (k + 1)) || (has f s k || has f s (k + 1) || has f s (k + 2))))
  four_is =
      every_four (fresh f) k
      ∙ rw (fresh_is f k p first, fresh_is f (k + 1) q second, fresh_is f (k + 2) r third, fresh_is f (k + 3) s fourth, new_one f q k, new_two f r k, new_three f s k)
      (by_parts (new f p k) (new f q k) (new f r k) (new f s k) (has f q k) (has f r k) (has f r (k + 1)) (has f s k) (has f s (k + 1)) (has f s (k + 2)))

  module _ (g : Bool) (is : g ≡ (new f p k && new f q k && new f r k && new f s k)) where
    pub four_fails : not g ≡ true → false ≡ every (fresh f) k 4
    four_fails h = sym (four_is ∙ rw (← is, not-true g h))

    pub four_decides : not g ≡ false → (x : Bool) → x ≡ not (has f q k || (has f r k || has f r (k + 1)) || (has f s k || has f s (k + 1) || has f s (k + 2)))
        → x ≡ every (fresh f) k 4
    four_decides h x e = e ∙ sym (four_is ∙ rw (← is, not-false g h))

-- ---- rows as frames

pub pair_read : (rows : List (List ℕ)) (k : ℕ) (p : Pair) → p ≡ pair_in (get_or rows k []) → p ≡ pair_of (named rows) k
unfolding named pair_in
pair_read rows k p e = e

-- one row more
pub row_turn : (rows : List (List ℕ)) (j : ℕ) (p q r s : Pair) (seen x : Bool)
    → every (none_of (has (named rows) p) (has (named rows) q) (has (named rows) r) (has (named rows) s)) 0 j ≡ not seen
    → x ≡ (same_pair (pair_in (get_or rows j [])) p || same_pair (pair_in (get_or rows j [])) q || same_pair (pair_in (get_or rows j [])) r || same_pair (pair_in (get_or rows j [])) s)
    → every (none_of (has (named rows) p) (has (named rows) q) (has (named rows) r) (has (named rows) s)) 0 (j + 1) ≡ not (seen || x)
unfolding named pair_in same_pair has_pair
row_turn rows j p q r s seen x h is = four_turn (has (named rows) p) (has (named rows) q) (has (named rows) r) (has (named rows) s) j seen x h is

-- the rows before row k
module _ (rows : List (List ℕ)) (k : ℕ) (h : k ≤ length rows) where
  named_before : Alike (named (take k rows)) (named rows) k
  unfolding named
  named_before = record {
    bench = λ j l. ap (λ (r : List ℕ). at4 r 0) (get_or-take k rows j [] l);
    number = λ j l. ap (λ (r : List ℕ). at4 r 4) (get_or-take k rows j [] l);
  }

  new_before : (p : Pair) → new (named (take k rows)) p (length (take k rows)) ≡ new (named rows) p k
  new_before p = rw (length-take-le k rows h) (new_alike (named (take k rows)) (named rows) k named_before p.bench p.number k (omega arith))

  pub four_before : (p q r s : Pair) (g : Bool)
      → g ≡ (new (named (take k rows)) p (length (take k rows)) && new (named (take k rows)) q (length (take k rows)) && new (named (take k rows)) r (length (take k rows)) && new (named (take k rows)) s (length (take k rows)))
      → g ≡ (new (named rows) p k && new (named rows) q k && new (named rows) r k && new (named rows) s k)
  four_before p q r s g is = is ∙ rw (new_before p, new_before q, new_before r, new_before s)

-- ---- parts of a range

module _ (p : ℕ → Bool) (from m w : ℕ) where
  pub part_fails : (n d : ℕ) → n ≡ m + w + d → every p (from + m) w ≡ false → false ≡ every p from n
  part_fails n d z h = sym (rw (z, every_add p from (m + w) d, every_add p from m w, h, and-false))

  pub part_more : (n : ℕ) → n ≡ m + w → every p from m ≡ true → every p (from + m) w ≡ true → every p from n ≡ true
  part_more n z g h = rw (z, every_add p from m w, g, h)

-- those that are left over by fours, and the fours
module _ (p : ℕ → Bool) (n : ℕ) (g : Bool) (is : g ≡ every p 0 (n % 4)) where
  in_two : every p 0 n ≡ (g && every p (n % 4) (4 * (n / 4)))
  in_two =
      let parts : n ≡ n % 4 + 4 * (n / 4) = omega arith in
      ap (every p 0) parts ∙ every_add p 0 (n % 4) (4 * (n / 4)) ∙ rw (zero-add, ← is)

  pub left_fail : not g ≡ true → false ≡ every p 0 n
  left_fail h = sym (in_two ∙ rw (not-true g h))

  pub fours_decide : not g ≡ false → (x : Bool) → x ≡ every p (n % 4) (4 * (n / 4)) → x ≡ every p 0 n
  fours_decide h x e = e ∙ sym (in_two ∙ rw (not-false g h))
