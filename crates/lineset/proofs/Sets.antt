-- Laws of sets and their members: a set made of a test has just the lines that the test holds of, and a set is made of its own members.
-- Assumes nothing.
use Prim.Native.Nat.{ℕ, zero, suc, ◌+◌, ◌*◌, ◌/◌, ◌%◌, ◌^◌, ◌≤◌, ◌<◌}
use native.Mathlib.Omega.{arith}
use native.Mathlib.Nat.{zero-div}
use mathlib.Core.Path.{◌≡◌, refl, sym, ◌∙◌, ap, ap₂}
use mathlib.Core.Bool.{Bool, true, false, ◌||◌, or-true, or-false}
use mathlib.Core.List.{List}
use lib.Dec.{eqb}
use lib.ListN.{get_or, length, get_or-eq_default}
use lib.Seq.{ext_get_or}
use mir.Val.{Fits, bool_byte}
use mir.Syntax.{w64}
use Rattle.lineset.specs.declared.LineSet.{LineSet}
use Rattle.lineset.specs.Lines.{packed, set_of, member, count_of}
use Rattle.lineset.proofs.Packed.{packed_lt, packed_bit, packed_number, packed_agree, count_agree}

digit_test : (b : Bool) → eqb (bool_byte b) 1 ≡ b
digit_test true = refl
digit_test false = refl

test_digit : (x : ℕ) → x < 2 → bool_byte (eqb x 1) ≡ x
test_digit zero l = refl
test_digit (suc zero) l = refl
test_digit (suc (suc x)) l = absurd (omega arith)

-- word j of a set made of a test
pub word_of : (p : ℕ → Bool) (j : ℕ) → j < 4 → get_or (set_of p).words j 0 ≡ packed p (64 * j) 64
unfolding set_of
word_of p zero l = refl
word_of p (suc zero) l = refl
word_of p (suc (suc zero)) l = refl
word_of p (suc (suc (suc zero))) l = refl
word_of p (suc (suc (suc (suc j)))) l = absurd (omega arith)

-- the lines of a set made of a test are those that it holds of
pub member_set : (p : ℕ → Bool) (L : ℕ) → L < 256 → member (set_of p) L ≡ p L
unfolding member
member_set p L l =
    ap (λ (w : ℕ). eqb (w / 2 ^ (L % 64) % 2) 1) (word_of p (L / 64) (omega arith))
    ∙ ap (λ (d : ℕ). eqb d 1) (packed_bit p (64 * (L / 64)) 64 (L % 64) (omega arith))
    ∙ digit_test (p (64 * (L / 64) + L % 64))
    ∙ ap p (omega arith)

-- the words of a set are four and fit 64 bits: so is every value of the struct
pub record Words (s : LineSet) : Type 0 where
  pub four : length s.words ≡ 4
  pub small : (j : ℕ) → get_or s.words j 0 < 2 ^ 64

-- at a function's entry both are at hand
pub words_of : {s : LineSet} → length s.words ≡ 4 → ((j : ℕ) → Fits w64 (get_or s.words j 0)) → Words s
words_of four fits = record { four = four; small = λ j. (fits j).fits }

set_small : (p : ℕ → Bool) (j : ℕ) → get_or (set_of p).words j 0 < 2 ^ 64
unfolding set_of
set_small p zero = packed_lt p 0 64
set_small p (suc zero) = packed_lt p 64 64
set_small p (suc (suc zero)) = packed_lt p 128 64
set_small p (suc (suc (suc zero))) = packed_lt p 192 64
set_small p (suc (suc (suc (suc j)))) = omega arith

pub words_set : (p : ℕ → Bool) → Words (set_of p)
words_set p = record { four = unfold set_of in refl; small = set_small p }

-- no line over 255 is in a set
pub member_past : (s : LineSet) (L : ℕ) → length s.words ≡ 4 → 256 ≤ L → member s L ≡ false
unfolding member
member_past s L four l =
    ap (λ (w : ℕ). eqb (w / 2 ^ (L % 64) % 2) 1) (get_or-eq_default s.words 0 {n = L / 64} (omega arith))
    ∙ ap (λ (w : ℕ). eqb (w % 2) 1) (zero-div (2 ^ (L % 64)))

pub member_out : (s : LineSet) → Words s → (L : ℕ) → 256 ≤ L → member s L ≡ false
member_out s ws L l = member_past s L ws.four l

-- word j of a set is packed from its members
pub word_members : (s : LineSet) → Words s → (j : ℕ) → packed (member s) (64 * j) 64 ≡ get_or s.words j 0
unfolding member
word_members s ws j =
    packed_number (member s) (get_or s.words j 0) (64 * j) 64 (ws.small j)
    (λ i l.
    ap₂ (λ (k m : ℕ). bool_byte (eqb (get_or s.words k 0 / 2 ^ m % 2) 1)) (omega arith) (omega arith)
    ∙ test_digit (get_or s.words j 0 / 2 ^ i % 2) (omega arith))

-- four words packed from a test are the set of that test
pub words_make : (p : ℕ → Bool) (s : LineSet) → length s.words ≡ 4 → ((j : ℕ) → j < 4 → get_or s.words j 0 ≡ packed p (64 * j) 64) → s ≡ set_of p
words_make p s four h =
    ap (λ (l : List ℕ). record { words = l })
    (ext_get_or 0 s.words (set_of p).words (four ∙ sym (words_set p).four)
    (λ j l. h j (omega arith) ∙ sym (word_of p j (omega arith))))

-- a set is made of its own members
pub set_members : (s : LineSet) → Words s → s ≡ set_of (member s)
set_members s ws = words_make (member s) s ws.four (λ j l. sym (word_members s ws j))

-- sets of tests that agree are equal
pub set_agree : (p q : ℕ → Bool) → ((L : ℕ) → L < 256 → p L ≡ q L) → set_of p ≡ set_of q
set_agree p q h =
    words_make q (set_of p) (words_set p).four
    (λ j l. word_of p j l ∙ packed_agree p q (64 * j) 64 (λ i k. h (64 * j + i) (omega arith)))

-- more lines, by a test of each
pub more_agree : (d : LineSet) (x y : ℕ → Bool) → ((L : ℕ) → L < 256 → x L ≡ y L) → set_of (λ (L : ℕ). member d L || x L) ≡ set_of (λ (L : ℕ). member d L || y L)
more_agree d x y h = set_agree (λ (L : ℕ). member d L || x L) (λ (L : ℕ). member d L || y L) (λ L l. ap (λ (b : Bool). member d L || b) (h L l))

pub more_none : (d : LineSet) → Words d → (x : ℕ → Bool) → ((L : ℕ) → L < 256 → x L ≡ false) → set_of (λ (L : ℕ). member d L || x L) ≡ d
more_none d w x h =
    set_agree (λ (L : ℕ). member d L || x L) (member d) (λ L l. ap (λ (b : Bool). member d L || b) (h L l) ∙ or-false (member d L)) ∙ sym (set_members d w)

pub more_all : (d : LineSet) (x : ℕ → Bool) → ((L : ℕ) → L < 256 → x L ≡ true) → set_of (λ (L : ℕ). member d L || x L) ≡ set_of x
more_all d x h =
    set_agree (λ (L : ℕ). member d L || x L) x (λ L l. ap (λ (b : Bool). member d L || b) (h L l) ∙ or-true (member d L) ∙ sym (h L l))

-- the count of a set made of a test
pub count_set : (p : ℕ → Bool) → count_of (member (set_of p)) 0 256 ≡ count_of p 0 256
count_set p = count_agree (member (set_of p)) p 0 256 (λ i l. member_set p (0 + i) (omega arith))
