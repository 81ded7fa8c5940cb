-- What the operations on the four words of a set make of its members.
-- Assumes nothing.
use Prim.Native.Nat.{ℕ, zero, suc, ◌+◌, ◌-◌, ◌*◌, ◌/◌, ◌%◌, ◌^◌, ◌≤◌, ◌<◌}
use native.Mathlib.Omega.{arith}
use native.Mathlib.Nat.{add-zero, zero-add, div-one}
use mathlib.Core.Path.{◌≡◌, refl, sym, ◌∙◌, ap, ap₂}
use mathlib.Core.Bool.{Bool, true, false, not, ◌&&◌, ◌||◌, or-true, or-false}
use mathlib.Core.List.{List, [], ◌∷◌}
use borrow.Author.Tests.{eq-eqb, ne_eqb, eqb-true, eqb-false, lt-ltb, le-ltb}
use lib.Dec.{eqb, ltb}
use lib.Bits.{bit_or, bit_and}
use lib.Count.{ones, count_trailing_zeros}
use lib.ListN.{length, get_or}
use mir.Val.{bool_byte}
use Rattle.lineset.specs.declared.LineSet.{LineSet}
use Rattle.std.specs.Prelude.{None, Some}
use Rattle.std.specs.List.{sum_by}
use Rattle.std.proofs.lemmas.List.Sums.{sum_by-cons}
use Rattle.lineset.specs.Lines.{packed, set_of, member, count_of, inside}
use Rattle.lineset.proofs.Packed.{packed_shift, or_packed, and_packed, ones_packed, count_add, count_le}
use Rattle.facts.specs.Tests.{every, first_of}
use Rattle.facts.proofs.Searches.{first_end}
use Rattle.facts.proofs.Tests.{every_all, every_agree, every_add}
use Rattle.lineset.proofs.Search.{first_none, first_some}
use Rattle.lineset.proofs.Sets.{Words, word_members, member_set, words_make}

-- four words, each packed from a test
pub four_words : (p : ℕ → Bool) (a b c d : ℕ) → a ≡ packed p 0 64 → b ≡ packed p 64 64 → c ≡ packed p 128 64 → d ≡ packed p 192 64
    → ◌≡◌ {A = LineSet} (record { words = a ∷ b ∷ c ∷ d ∷ [] }) (set_of p)
unfolding set_of
four_words p a b c d e f g h = λ i. record { words = e i ∷ f i ∷ g i ∷ h i ∷ [] }

-- an operation on words that packs a test of two members, on all four words
module _ (op : ℕ → ℕ → ℕ) (test : Bool → Bool → Bool)
    (packs : (p q : ℕ → Bool) (from n : ℕ) → op (packed p from n) (packed q from n) ≡ packed (λ (L : ℕ). test (p L) (q L)) from n)
    (s t : LineSet) (ws : Words s) (wt : Words t) where
  op_word : (j : ℕ) → op (get_or s.words j 0) (get_or t.words j 0) ≡ packed (λ (L : ℕ). test (member s L) (member t L)) (64 * j) 64
  op_word j = ap₂ op (sym (word_members s ws j)) (sym (word_members t wt j)) ∙ packs (member s) (member t) (64 * j) 64

  op_words : (r : LineSet) → length r.words ≡ 4 → ((j : ℕ) → j < 4 → get_or r.words j 0 ≡ op (get_or s.words j 0) (get_or t.words j 0))
      → r ≡ set_of (λ (L : ℕ). test (member s L) (member t L))
  op_words r four each = words_make _ r four (λ j l. each j l ∙ op_word j)

module _ (s t r : LineSet) (ws : Words s) (wt : Words t) (four : length r.words ≡ 4) where
  pub or_words : ((j : ℕ) → j < 4 → get_or r.words j 0 ≡ bit_or (get_or s.words j 0) (get_or t.words j 0)) → r ≡ set_of (λ (L : ℕ). member s L || member t L)
  or_words each = op_words bit_or ◌||◌ or_packed s t ws wt r four each

  pub and_words : ((j : ℕ) → j < 4 → get_or r.words j 0 ≡ bit_and (get_or s.words j 0) (get_or t.words j 0)) → r ≡ set_of (λ (L : ℕ). member s L && member t L)
  and_words each = op_words bit_and ◌&&◌ and_packed s t ws wt r four each

-- words behind each other: their ones are the numbers that they are packed from
ones_words : (p : ℕ → Bool) (from : ℕ) (ws : List ℕ) → ((j : ℕ) → j < length ws → get_or ws j 0 ≡ packed p (from + 64 * j) 64) → sum_by ones ws ≡ count_of p from (length ws * 64)
ones_words p from [] h = unfold count_of in refl
ones_words p from (w ∷ ws) h =
    let first : w ≡ packed p from 64 = h 0 (omega arith) ∙ ap (λ (k : ℕ). packed p k 64) (omega arith) in
    let others : sum_by ones ws ≡ count_of p (from + 64) (length ws * 64) =
    ones_words p (from + 64) ws (λ j l. h (suc j) (omega arith) ∙ ap (λ (k : ℕ). packed p k 64) (omega arith)) in
    let all : length ws * 64 + 64 ≡ 64 + length ws * 64 = omega arith in
    let place : suc (length ws) * 64 ≡ 64 + length ws * 64 = omega arith in
    sum_by-cons ones w ws ∙ ap₂ ◌+◌ (ap ones first ∙ ones_packed p from 64) others ∙ sym (count_add p from 64 (length ws * 64)) ∙ ap (count_of p from) (sym place)

-- the ones of the words of a set are its lines
pub count_words : (s : LineSet) → Words s → sum_by ones s.words ≡ count_of (member s) 0 256
count_words s ws =
    let e : length s.words * 64 ≡ 256 = omega (arith, ws.four) in
    ones_words (member s) 0 s.words (λ j l. sym (word_members s ws j) ∙ ap (λ (k : ℕ). packed (member s) k 64) (omega arith))
    ∙ ap (count_of (member s) 0) e

pub count_fits : (s : LineSet) → Words s → sum_by ones s.words < 2 ^ 16
count_fits s ws = omega (arith, count_words s ws, count_le (member s) 0 256)

-- the first line from bit k of word i on: in that word, or from the next one on
module _ (s : LineSet) (ws : Words s) (i k : ℕ) (hi : i < 4) (hk : k < 64) where
  tail : get_or s.words i 0 / 2 ^ k ≡ packed (member s) (64 * i + k) (64 - k)
  tail =
      let e : 64 ≡ k + (64 - k) = omega arith in
      ap (λ (w : ℕ). w / 2 ^ k) (sym (word_members s ws i)) ∙ ap (λ (n : ℕ). packed (member s) (64 * i) n / 2 ^ k) e ∙ packed_shift (member s) k (64 * i) (64 - k)

  cut : 256 - (64 * i + k) ≡ 64 - k + (256 - 64 * (i + 1))
  cut = omega arith

  pub first_here : (get_or s.words i 0 / 2 ^ k ≡ 0 → ⊥)
      → first_of (member s) (64 * i + k) (256 - (64 * i + k)) ≡ Some (64 * i + k + count_trailing_zeros 64 (get_or s.words i 0 / 2 ^ k))
  first_here ne =
      rw (cut, tail) (first_some (member s) (64 * i + k) (64 - k) (256 - 64 * (i + 1)) 64 (λ z. ne (tail ∙ z)) (omega arith))

  pub first_past : get_or s.words i 0 / 2 ^ k ≡ 0
      → first_of (member s) (64 * i + k) (256 - (64 * i + k)) ≡ first_of (member s) (64 * (i + 1)) (256 - 64 * (i + 1))
  first_past z =
      let e : 64 * i + k + (64 - k) ≡ 64 * (i + 1) = omega arith in
      rw cut (first_none (member s) (64 * i + k) (64 - k) (256 - 64 * (i + 1)) (sym tail ∙ z)) ∙ ap (λ (n : ℕ). first_of (member s) n (256 - 64 * (i + 1))) e

-- the same from line n on, whose bit is n % 64 of word w, and from the first line of a word on
module _ (s : LineSet) (ws : Words s) (n w : ℕ) (h : n < 256) (is : w ≡ get_or s.words (n / 64) 0) where
  back : 64 * (n / 64) + n % 64 ≡ n
  back = omega arith

  pub first_at : (w / 2 ^ (n % 64) ≡ 0 → ⊥) → Some (n + count_trailing_zeros 64 (w / 2 ^ (n % 64))) ≡ first_of (member s) n (256 - n)
  first_at ne =
      sym
      (ap (λ (m : ℕ). first_of (member s) m (256 - m)) (sym back)
      ∙ first_here s ws (n / 64) (n % 64) (omega arith) (omega arith) (λ z. ne (ap (λ (v : ℕ). v / 2 ^ (n % 64)) is ∙ z))
      ∙ ap₂ (λ (m v : ℕ). Some (m + count_trailing_zeros 64 (v / 2 ^ (n % 64)))) back (sym is))

  pub first_over : w / 2 ^ (n % 64) ≡ 0 → first_of (member s) n (256 - n) ≡ first_of (member s) (64 * (n / 64 + 1)) (256 - 64 * (n / 64 + 1))
  first_over z =
      ap (λ (m : ℕ). first_of (member s) m (256 - m)) (sym back)
      ∙ first_past s ws (n / 64) (n % 64) (omega arith) (omega arith) (ap (λ (v : ℕ). v / 2 ^ (n % 64)) (sym is) ∙ z)

module _ (s : LineSet) (ws : Words s) (i : ℕ) (h : i < 4) where
  pub first_word : (get_or s.words i 0 ≡ 0 → ⊥) → first_of (member s) (64 * i) (256 - 64 * i) ≡ Some (i * 64 + count_trailing_zeros 64 (get_or s.words i 0))
  first_word ne =
      let e : 64 * i ≡ i * 64 = omega arith in
      rw (add-zero, div-one) at (first_here s ws i 0 h (omega arith) (λ z. ne (sym (div-one (get_or s.words i 0)) ∙ z)))
      ∙ ap (λ (m : ℕ). Some (m + count_trailing_zeros 64 (get_or s.words i 0))) e

  next_word : get_or s.words i 0 ≡ 0 → first_of (member s) (64 * i) (256 - 64 * i) ≡ first_of (member s) (64 * (i + 1)) (256 - 64 * (i + 1))
  next_word z = rw add-zero at (first_past s ws i 0 h (omega arith) (div-one (get_or s.words i 0) ∙ z))

-- past words of 0
past_words : (s : LineSet) → Words s → (a d : ℕ) → a + d ≤ 4 → ((k : ℕ) → a ≤ k → k < a + d → get_or s.words k 0 ≡ 0)
    → first_of (member s) (64 * a) (256 - 64 * a) ≡ first_of (member s) (64 * (a + d)) (256 - 64 * (a + d))
past_words s ws a zero l h = rw add-zero refl
past_words s ws a (suc d) l h =
    let e : a + 1 + d ≡ a + suc d = omega arith in
    next_word s ws a (omega arith) (h a (omega arith) (omega arith))
    ∙ past_words s ws (a + 1) d (omega arith) (λ k lo hi. h k (omega arith) (omega arith))
    ∙ ap (λ (m : ℕ). first_of (member s) (64 * m) (256 - 64 * m)) e

module _ (s : LineSet) (ws : Words s) (n w : ℕ) (h : n < 256) (is : w ≡ get_or s.words (n / 64) 0) (z : w / 2 ^ (n % 64) ≡ 0) where
  -- the first later word with a bit has the line
  pub first_later : (i : ℕ) → n / 64 + 1 ≤ i → i < 4 → (get_or s.words i 0 ≡ 0 → ⊥) → ((k : ℕ) → n / 64 + 1 ≤ k → k < i → get_or s.words k 0 ≡ 0)
      → Some (i * 64 + count_trailing_zeros 64 (get_or s.words i 0)) ≡ first_of (member s) n (256 - n)
  first_later i lo hi ne none =
      let e : n / 64 + 1 + (i - (n / 64 + 1)) ≡ i = omega arith in
      sym
      (first_over s ws n w h is z
      ∙ past_words s ws (n / 64 + 1) (i - (n / 64 + 1)) (omega arith) (λ k a b. none k a (omega arith))
      ∙ ap (λ (m : ℕ). first_of (member s) (64 * m) (256 - 64 * m)) e
      ∙ first_word s ws i hi ne)

  pub first_nowhere : ((k : ℕ) → n / 64 + 1 ≤ k → k < 4 → get_or s.words k 0 ≡ 0) → None ≡ first_of (member s) n (256 - n)
  first_nowhere none =
      let e : n / 64 + 1 + (4 - (n / 64 + 1)) ≡ 4 = omega arith in
      sym
      (first_over s ws n w h is z
      ∙ past_words s ws (n / 64 + 1) (4 - (n / 64 + 1)) (omega arith) (λ k a b. none k a (omega arith))
      ∙ ap (λ (m : ℕ). first_of (member s) (64 * m) (256 - 64 * m)) e
      ∙ first_end (member s) 256 256 (omega arith))

-- ---- whether every line of a set is below a number

none_step : (b : Bool) (w : ℕ) → (not b && eqb w 0) ≡ eqb (w * 2 + bool_byte b) 0
none_step true w = sym (ne_eqb (w * 2 + 1) 0 (λ (z : w * 2 + 1 ≡ 0). omega arith))
none_step false w = go (eqb w 0) refl
  where
    go : (t : Bool) → eqb w 0 ≡ t → t ≡ eqb (w * 2 + 0) 0
    go true e = let z = eqb-true w 0 e in sym (eq-eqb (w * 2 + 0) 0 (omega arith))
    go false e = let z = eqb-false w 0 e in sym (ne_eqb (w * 2 + 0) 0 (λ (y : w * 2 + 0 ≡ 0). z (omega arith)))

-- a test holds of none of n numbers: their digits are 0
none_packed : (p : ℕ → Bool) (from n : ℕ) → every (λ (L : ℕ). not (p L)) from n ≡ eqb (packed p from n) 0
unfolding packed every
none_packed p from zero = refl
none_packed p from (suc n) =
    ap (λ (t : Bool). not (p from) && t) (none_packed p (suc from) n) ∙ none_step (p from) (packed p (suc from) n)

-- a line of s is below n, or is not there
below : LineSet → ℕ → ℕ → Bool
below s n L = not (member s L) || ltb L n

inside_below : (s : LineSet) (n : ℕ) → inside s (set_of (λ (L : ℕ). ltb L n)) ≡ every (below s n) 0 256
unfolding inside below
inside_below s n =
    every_agree _ _ 0 256
    (λ i l. ap (λ (t : Bool). not (member s (0 + i)) || t) (member_set (λ (L : ℕ). ltb L n) (0 + i) (omega arith)))

below_first : (s : LineSet) (n m : ℕ) → m ≤ n → every (below s n) 0 m ≡ true
unfolding below
below_first s n m h =
    every_all (below s n) 0 m
    (λ i l. ap (λ (t : Bool). not (member s (0 + i)) || t) (lt-ltb (0 + i) n (omega arith)) ∙ or-true (not (member s (0 + i))))

pub inside_all : (s : LineSet) → inside s (set_of (λ (L : ℕ). ltb L 256)) ≡ true
inside_all s = inside_below s 256 ∙ below_first s 256 256 (omega arith)

-- the last word has the lines from 192 on: those from 192 + k on are its digits from k on
pub inside_last : (s : LineSet) → Words s → (k : ℕ) → k < 64 → inside s (set_of (λ (L : ℕ). ltb L (192 + k))) ≡ eqb (get_or s.words 3 0 / 2 ^ k) 0
unfolding below
inside_last s ws k h =
    let e : 256 ≡ 192 + k + (64 - k) = omega arith in
    inside_below s (192 + k)
    ∙ ap (λ (n : ℕ). every (below s (192 + k)) 0 n) e
    ∙ every_add (below s (192 + k)) 0 (192 + k) (64 - k)
    ∙ ap₂ (λ (t : Bool) (n : ℕ). t && every (below s (192 + k)) n (64 - k)) (below_first s (192 + k) (192 + k) (omega arith)) (zero-add (192 + k))
    ∙ every_agree (below s (192 + k)) (λ (L : ℕ). not (member s L)) (192 + k) (64 - k)
    (λ i l. ap (λ (t : Bool). not (member s (192 + k + i)) || t) (le-ltb (192 + k + i) (192 + k) (omega arith)) ∙ or-false (not (member s (192 + k + i))))
    ∙ none_packed (member s) (192 + k) (64 - k)
    ∙ ap (λ (w : ℕ). eqb w 0) (sym (tail s ws 3 k (omega arith) h))
