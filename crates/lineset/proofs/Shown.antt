-- Laws of the shown lines, and of sets at every line number.
-- Assumes nothing.
use Prim.Native.Nat.{ℕ, ◌/◌, ◌≤◌, ◌<◌}
use native.Mathlib.Nat.{zero-add}
use native.Mathlib.Omega.{arith}
use mathlib.Core.Path.{◌≡◌, refl, sym, ◌∙◌, ap}
use mathlib.Core.Bool.{Bool, true, false, cond, not, ◌||◌, true≢false}
use borrow.Author.Tests.{eq-eqb, ne_eqb, ltb-true, ltb-false, lt-ltb, le-ltb}
use lib.Dec.{eqb, ltb}
use lib.ListN.{get_or}
use Rattle.facts.proofs.Tests.{every_at, every_all}
use Rattle.lineset.specs.declared.LineSet.{LineSet}
use Rattle.lineset.specs.Lines.{set_of, member, inside, shown_count, is_shown, shown_set}
use Rattle.lineset.proofs.Sets.{Words, words_set, member_set, member_out, more_agree}
use Rattle.lineset.proofs.Operations.{inside_all, inside_last}

pub shown_at_most : (rate : ℕ) → shown_count rate ≤ 256
unfolding shown_count
shown_at_most rate = go (eqb rate 50) (eqb rate 60)
  where
    go : (t u : Bool) → cond t 256 (cond u 200 0) ≤ 256
    go true u = omega arith
    go false true = omega arith
    go false false = omega arith

-- the test of a shown line, and its number
pub is_shown_lem : (rate L : ℕ) → L < shown_count rate → is_shown rate L ≡ true
unfolding is_shown
is_shown_lem rate L l = lt-ltb L (shown_count rate) l

pub not_shown : (rate L : ℕ) → shown_count rate ≤ L → is_shown rate L ≡ false
unfolding is_shown
not_shown rate L l = le-ltb L (shown_count rate) l

pub shown_line : (rate L : ℕ) → is_shown rate L ≡ true → L < shown_count rate
unfolding is_shown
shown_line rate L e = ltb-true L (shown_count rate) e

pub unshown_line : (rate L : ℕ) → is_shown rate L ≡ false → shown_count rate ≤ L
unfolding is_shown
unshown_line rate L e = ltb-false L (shown_count rate) e

pub shown_below : (rate L : ℕ) → 256 ≤ L → is_shown rate L ≡ false
shown_below rate L l = not_shown rate L (omega (arith, shown_at_most rate))

-- a test that holds of no number over 255 is that of its set at every number
pub member_all : (p : ℕ → Bool) → ((L : ℕ) → 256 ≤ L → p L ≡ false) → (L : ℕ) → member (set_of p) L ≡ p L
member_all p h L = go (ltb L 256) refl
  where
    go : (t : Bool) → ltb L 256 ≡ t → member (set_of p) L ≡ p L
    go true e = member_set p L (ltb-true L 256 e)
    go false e = let l = ltb-false L 256 e in member_out (set_of p) (words_set p) L l ∙ sym (h L l)

pub none_member : (L : ℕ) → member (set_of (λ (M : ℕ). false)) L ≡ false
none_member L = member_all (λ (M : ℕ). false) (λ M l. refl) L

pub shown_member : (rate L : ℕ) → member (shown_set rate) L ≡ is_shown rate L
unfolding shown_set
shown_member rate L = member_all (is_shown rate) (shown_below rate) L

pub more_member : (d : LineSet) (x : ℕ → Bool) → Words d → ((L : ℕ) → 256 ≤ L → x L ≡ false) → (L : ℕ)
    → member (set_of (λ (M : ℕ). member d M || x M)) L ≡ (member d L || x L)
more_member d x w h L = member_all (λ (M : ℕ). member d M || x M) (λ M l. rw (member_out d w M l, h M l)) L

-- a union with the lines that a rate shows
pub union_shown : (s t r : LineSet) (given rate : ℕ) → r ≡ set_of (λ (L : ℕ). member s L || member t L) → t ≡ shown_set given → given ≡ rate
    → r ≡ set_of (λ (L : ℕ). member s L || is_shown rate L)
union_shown s t r given rate e f g =
    e
    ∙ ap (λ (u : LineSet). set_of (λ (L : ℕ). member s L || member u L)) (f ∙ ap shown_set g)
    ∙ more_agree s (member (shown_set rate)) (is_shown rate) (λ L l. shown_member rate L)

-- a set is inside the shown lines exactly if each line of it is shown
pub inside_at : (s : LineSet) (rate : ℕ) → inside s (shown_set rate) ≡ true → (L : ℕ) → L < 256 → member s L ≡ true → is_shown rate L ≡ true
unfolding inside
inside_at s rate e L l m =
    sym (shown_member rate L) ∙ go (member s L) m (rw zero-add at (every_at (λ (M : ℕ). not (member s M) || member (shown_set rate) M) 0 256 e L l))
  where
    go : (t : Bool) → t ≡ true → (not t || member (shown_set rate) L) ≡ true → member (shown_set rate) L ≡ true
    go true e f = f
    go false e f = absurd (true≢false (sym e))

pub inside_made : (s : LineSet) (rate : ℕ) → ((L : ℕ) → L < 256 → member s L ≡ true → is_shown rate L ≡ true) → inside s (shown_set rate) ≡ true
unfolding inside
inside_made s rate h =
    every_all (λ (M : ℕ). not (member s M) || member (shown_set rate) M) 0 256 (λ i l. rw zero-add (go i l (member s i) refl))
  where
    go : (L : ℕ) → L < 256 → (t : Bool) → member s L ≡ t → (not t || member (shown_set rate) L) ≡ true
    go L l true e = shown_member rate L ∙ h L l e
    go L l false e = refl

-- so a line that is not shown is not in it
pub inside_not : (s : LineSet) → Words s → (rate : ℕ) → inside s (shown_set rate) ≡ true → (L : ℕ) → is_shown rate L ≡ false → member s L ≡ false
inside_not s w rate e L n = go (ltb L 256) refl
  where
    inner : (t : Bool) → member s L ≡ t → L < 256 → t ≡ false
    inner false m l = refl
    inner true m l = absurd (true≢false (sym (inside_at s rate e L l m) ∙ n))

    go : (t : Bool) → ltb L 256 ≡ t → member s L ≡ false
    go true f = inner (member s L) refl (ltb-true L 256 f)
    go false f = member_out s w L (ltb-false L 256 f)

-- at 50 Hz every line is shown; at 60 Hz lines 200 to 255 are not: bits 8 to 63 of the last word
pub inside_words : (s : LineSet) → Words s → (rate : ℕ) → (eqb rate 50 || eqb rate 60) ≡ true
    → (eqb rate 50 || ltb (get_or s.words 3 0) 256) ≡ inside s (shown_set rate)
unfolding shown_set is_shown shown_count
inside_words s ws rate g = go (eqb rate 50) refl (eqb rate 60) refl
  where
    first : (n : ℕ) → shown_count rate ≡ n → inside s (shown_set rate) ≡ inside s (set_of (λ (L : ℕ). ltb L n))
    first n e = ap (λ (m : ℕ). inside s (set_of (λ (L : ℕ). ltb L m))) e

    below : (w : ℕ) (t : Bool) → ltb w 256 ≡ t → eqb (w / 256) 0 ≡ t
    below w true e = let l = ltb-true w 256 e in eq-eqb (w / 256) 0 (omega arith)
    below w false e = let l = ltb-false w 256 e in ne_eqb (w / 256) 0 (λ (z : w / 256 ≡ 0). omega arith)

    go : (t : Bool) → eqb rate 50 ≡ t → (u : Bool) → eqb rate 60 ≡ u → (t || ltb (get_or s.words 3 0) 256) ≡ inside s (shown_set rate)
    go true e u f = sym (first 256 (simp e) ∙ inside_all s)
    go false e true f = sym (first 200 (simp (e, f)) ∙ inside_last s ws 8 (omega arith) ∙ below (get_or s.words 3 0) _ refl)
    go false e false f = absurd (true≢false (sym g ∙ simp (e, f)))
