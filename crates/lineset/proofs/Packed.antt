-- Laws of packed words: packing a test and reading it back, and what union, intersection and count make of packed words.
-- Assumes nothing.
use Prim.Native.Nat.{ℕ, zero, suc, ◌+◌, ◌-◌, ◌*◌, ◌/◌, ◌%◌, ◌^◌, ◌≤◌, ◌<◌}
use native.Mathlib.Nat.{add-suc, suc-add, add-zero, zero-add, add_assoc, add_comm, zero-mul, mul_assoc, mul-mod_left, add-mul-mod_self_right, mod-eq_of_lt, pow-suc, le_of_suc-le-suc, not-suc-le-zero, div-one}
use native.Mathlib.Numerals.{one-add}
use native.Mathlib.Omega.{arith}
use mathlib.Core.Path.{◌≡◌, refl, sym, ◌∙◌, ap, ap₂}
use mathlib.Core.Bool.{Bool, true, false, ◌&&◌, ◌||◌}
use lib.Dec.{eqb}
use borrow.Author.Tests.{eqb-true, eqb-false, ne_eqb}
use lib.Arith.{lt_of_le-ne}
use lib.Bits.{bit_or, bit_and, or_block, and_block, or_zero_l, or_zero_r}
use lib.Count.{ones, ones_step}
use lib.Pow.{shr-shr, shl-shr, pow_pos, pow-add, mod-pow-add, mod-mod-pow}
use mir.Val.{bool_byte}
use Rattle.facts.proofs.Bools.{bool_byte_lt}
use Rattle.lineset.specs.Lines.{packed, count_of}

-- n digits make a number below 2 ^ n
pub packed_lt : (p : ℕ → Bool) (from n : ℕ) → packed p from n < 2 ^ n
unfolding packed
packed_lt p from zero = omega arith
packed_lt p from (suc n) = rw pow-suc (omega (arith, packed_lt p (suc from) n, bool_byte_lt (p from)))

-- the digits above the lowest, and the lowest
pub packed_half : (p : ℕ → Bool) (from n : ℕ) → packed p from (suc n) / 2 ≡ packed p (suc from) n
unfolding packed
packed_half p from n = omega (arith, bool_byte_lt (p from))

pub packed_low : (p : ℕ → Bool) (from n : ℕ) → packed p from (suc n) % 2 ≡ bool_byte (p from)
unfolding packed
packed_low p from n = omega (arith, bool_byte_lt (p from))

half_pow : (n k : ℕ) → n / 2 ^ suc k ≡ n / 2 / 2 ^ k
half_pow n k = ap (λ (m : ℕ). n / 2 ^ m) (sym (one-add k)) ∙ sym (shr-shr n 1 k)

-- without its k lowest digits it starts k later
pub packed_shift : (p : ℕ → Bool) (k from n : ℕ) → packed p from (k + n) / 2 ^ k ≡ packed p (from + k) n
packed_shift p zero from n = rw (zero-add, add-zero) (div-one (packed p from n))
packed_shift p (suc k) from n =
    rw suc-add (half_pow (packed p from (suc (k + n))) k)
    ∙ ap (λ (w : ℕ). w / 2 ^ k) (packed_half p from (k + n))
    ∙ packed_shift p k (suc from) n
    ∙ ap (λ (m : ℕ). packed p m n) (suc-add from k ∙ sym (add-suc from k))

-- its digit i is p at from + i
pub packed_bit : (p : ℕ → Bool) (from n i : ℕ) → i < n → packed p from n / 2 ^ i % 2 ≡ bool_byte (p (from + i))
packed_bit p from zero i h = absurd (not-suc-le-zero h)
packed_bit p from (suc n) zero h = rw (div-one, add-zero) (packed_low p from n)
packed_bit p from (suc n) (suc i) h =
    ap (λ (w : ℕ). w % 2) (half_pow (packed p from (suc n)) i ∙ ap (λ (w : ℕ). w / 2 ^ i) (packed_half p from n))
    ∙ packed_bit p (suc from) n i (le_of_suc-le-suc h)
    ∙ ap (λ (m : ℕ). bool_byte (p m)) (suc-add from i ∙ sym (add-suc from i))

-- a number below 2 ^ n is packed from its own digits
pub packed_number : (p : ℕ → Bool) (w from n : ℕ) → w < 2 ^ n → ((i : ℕ) → i < n → bool_byte (p (from + i)) ≡ w / 2 ^ i % 2) → packed p from n ≡ w
unfolding packed
packed_number p w from zero l h = omega arith
packed_number p w from (suc n) l h =
    let low : bool_byte (p from) ≡ w % 2 = ap (λ (m : ℕ). bool_byte (p m)) (sym (add-zero from)) ∙ h zero (omega arith) ∙ ap (λ (x : ℕ). x % 2) (div-one w) in
    let high : packed p (suc from) n ≡ w / 2 =
    packed_number p (w / 2) (suc from) n (half_lt w n l)
    (λ i k.
    ap (λ (m : ℕ). bool_byte (p m)) (suc-add from i ∙ sym (add-suc from i)) ∙ h (suc i) (omega arith) ∙ ap (λ (x : ℕ). x % 2) (half_pow w i)) in
    omega arith
  where
    half_lt : (w n : ℕ) → w < 2 ^ suc n → w / 2 < 2 ^ n
    half_lt w n l = let k : w < 2 ^ n * 2 = rw pow-suc at l in omega arith

-- two tests that agree on the numbers packed
pub packed_agree : (p q : ℕ → Bool) (from n : ℕ) → ((i : ℕ) → i < n → p (from + i) ≡ q (from + i)) → packed p from n ≡ packed q from n
packed_agree p q from n h =
    packed_number p (packed q from n) from n (packed_lt q from n)
    (λ i l. ap bool_byte (h i l) ∙ sym (packed_bit q from n i l))

-- a loop's start: no digit
pub packed_start : (p : ℕ → Bool) (from : ℕ) → 0 ≡ packed p from 0
unfolding packed
packed_start p from = refl

-- the digits of a property from k on are those of the property moved down by k
pub packed_moved : (p q : ℕ → Bool) (k from n : ℕ) → ((i : ℕ) → q i ≡ p (k + i)) → packed p (k + from) n ≡ packed q from n
unfolding packed
packed_moved p q k from zero h = refl
packed_moved p q k from (suc n) h =
    rw (h from, ← packed_moved p q k (suc from) n h, add-suc)

-- ---- words behind each other

-- m digits, and above them the n that follow
pub packed_add : (p : ℕ → Bool) (m from n : ℕ) → packed p from (m + n) ≡ packed p from m + packed p (from + m) n * 2 ^ m
unfolding packed
packed_add p zero from n = rw (zero-add n, add-zero from) (omega arith)
packed_add p (suc m) from n =
    let e : suc from + m ≡ from + suc m = omega arith in
    let q : packed p (from + suc m) n * 2 ^ suc m ≡ packed p (from + suc m) n * 2 ^ m * 2 = rw pow-suc (sym (mul_assoc _ _ _)) in
    rw suc-add (omega (arith, packed_add p m (suc from) n, ap (λ (k : ℕ). packed p k n * 2 ^ m) e, q))

-- the n lowest digits
packed_lowest : (p : ℕ → Bool) (from n w : ℕ) → n ≤ 64 → w ≡ packed p from 64 → w % 2 ^ n ≡ packed p from n
packed_lowest p from n w h e =
    let s : 64 ≡ n + (64 - n) = omega arith in
    rw (e ∙ ap (packed p from) s ∙ packed_add p n from (64 - n)) (add-mul-mod_self_right _ _ _ ∙ mod-eq_of_lt (packed_lt p from n))

-- what is left of a number moved up by k digits in j + k
shl_lowest : (n j k : ℕ) → n * 2 ^ k % 2 ^ (j + k) ≡ n % 2 ^ j * 2 ^ k
shl_lowest n j k = mod-pow-add (n * 2 ^ k) j k ∙ rw (shl-shr n k, mul-mod_left n (2 ^ k)) (add-zero _)

-- moved up by one digit and then by the others of 64 - d, in 64
shl_twice : (n d : ℕ) → d < 64 → n * 2 ^ 1 % 2 ^ 64 * 2 ^ (63 - d) % 2 ^ 64 ≡ n % 2 ^ d * 2 ^ (64 - d)
shl_twice n d h =
    let up : 1 + (63 - d) ≡ 64 - d = omega arith in
    let all : 64 ≡ d + (64 - d) = omega arith in
    let most : 63 ≡ 63 - d + d = omega arith in
    ap (λ (m : ℕ). m * 2 ^ (63 - d) % 2 ^ 64) (shl_lowest n 63 1)
    ∙ ap (λ (m : ℕ). m % 2 ^ 64) (mul_assoc (n % 2 ^ 63) (2 ^ 1) (2 ^ (63 - d)) ∙ ap (λ (m : ℕ). n % 2 ^ 63 * m) (sym (pow-add 2 1 (63 - d)) ∙ ap (λ (m : ℕ). 2 ^ m) up))
    ∙ ap (λ (m : ℕ). n % 2 ^ 63 * 2 ^ (64 - d) % 2 ^ m) all
    ∙ shl_lowest (n % 2 ^ 63) d (64 - d)
    ∙ ap (λ (m : ℕ). m * 2 ^ (64 - d)) (ap (λ (m : ℕ). n % 2 ^ m % 2 ^ d) most ∙ mod-mod-pow n (63 - d) d)

-- of two words, one behind the other, the 64 digits from a digit of the first on
pub packed_from_digit :
    (p : ℕ → Bool) (from d low high : ℕ) →
    d < 64 →
    low ≡ packed p from 64 →
    high ≡ packed p (from + 64) 64 →
    bit_or (low / 2 ^ d) (high * 2 ^ 1 % 2 ^ 64 * 2 ^ (63 - d) % 2 ^ 64) ≡ packed p (from + d) 64
packed_from_digit p from d low high h e f =
    let all : d + (64 - d) ≡ 64 = omega arith in
    let back : 64 - d + d ≡ 64 = omega arith in
    let place : from + d + (64 - d) ≡ from + 64 = omega arith in
    let bottom : low / 2 ^ d ≡ packed p (from + d) (64 - d) = ap (λ (w : ℕ). w / 2 ^ d) (e ∙ ap (packed p from) (sym all)) ∙ packed_shift p d from (64 - d) in
    let top : high * 2 ^ 1 % 2 ^ 64 * 2 ^ (63 - d) % 2 ^ 64 ≡ packed p (from + 64) d * 2 ^ (64 - d) = shl_twice high d h ∙ ap (λ (w : ℕ). w * 2 ^ (64 - d)) (packed_lowest p (from + 64) d high (omega arith) f) in
    ap₂ bit_or bottom top
    ∙ or_apart (64 - d) (packed p (from + 64) d) (packed p (from + d) (64 - d)) (packed_lt p (from + d) (64 - d))
    ∙ ap (λ (k : ℕ). packed p (from + d) (64 - d) + packed p k d * 2 ^ (64 - d)) (sym place)
    ∙ sym (packed_add p (64 - d) (from + d) d)
    ∙ ap (packed p (from + d)) back
  where
    or_apart : (k a r : ℕ) → r < 2 ^ k → bit_or r (a * 2 ^ k) ≡ r + a * 2 ^ k
    or_apart k a r l =
        ap₂ bit_or (sym (zero-add r) ∙ ap (λ (m : ℕ). m + r) (sym (zero-mul (2 ^ k)))) (sym (add-zero (a * 2 ^ k)))
        ∙ or_block k 0 a r 0 l (pow_pos k)
        ∙ rw (or_zero_l a, or_zero_r r) (add_comm (a * 2 ^ k) r)

-- ---- union, intersection and count of packed words

or_digit : (a b : Bool) → bit_or (bool_byte a) (bool_byte b) ≡ bool_byte (a || b)
or_digit true true = refl
or_digit true false = refl
or_digit false true = refl
or_digit false false = refl

and_digit : (a b : Bool) → bit_and (bool_byte a) (bool_byte b) ≡ bool_byte (a && b)
and_digit true true = refl
and_digit true false = refl
and_digit false true = refl
and_digit false false = refl

-- an operation on words that goes digit by digit, as `bit_or` and `bit_and` do, is the test on the packed numbers
module _ (op : ℕ → ℕ → ℕ) (test : Bool → Bool → Bool) (none : op 0 0 ≡ 0)
    (step : (a b r s : ℕ) → r < 2 ^ 1 → s < 2 ^ 1 → op (a * 2 ^ 1 + r) (b * 2 ^ 1 + s) ≡ op a b * 2 ^ 1 + op r s)
    (digit : (a b : Bool) → op (bool_byte a) (bool_byte b) ≡ bool_byte (test a b)) where
  digits_packed : (p q : ℕ → Bool) (from n : ℕ) → op (packed p from n) (packed q from n) ≡ packed (λ (L : ℕ). test (p L) (q L)) from n
  unfolding packed
  digits_packed p q from zero = none
  digits_packed p q from (suc n) =
      step (packed p (suc from) n) (packed q (suc from) n) (bool_byte (p from)) (bool_byte (q from)) (bool_byte_lt (p from)) (bool_byte_lt (q from))
      ∙ ap₂ (λ (w d : ℕ). w * 2 + d) (digits_packed p q (suc from) n) (digit (p from) (q from))

pub or_packed : (p q : ℕ → Bool) (from n : ℕ) → bit_or (packed p from n) (packed q from n) ≡ packed (λ (L : ℕ). p L || q L) from n
or_packed = digits_packed bit_or ◌||◌ refl (or_block 1) or_digit

pub and_packed : (p q : ℕ → Bool) (from n : ℕ) → bit_and (packed p from n) (packed q from n) ≡ packed (λ (L : ℕ). p L && q L) from n
and_packed = digits_packed bit_and ◌&&◌ refl (and_block 1) and_digit

pub ones_packed : (p : ℕ → Bool) (from n : ℕ) → ones (packed p from n) ≡ count_of p from n
unfolding count_of
ones_packed p from zero = unfold packed ones in refl
ones_packed p from (suc n) =
    ones_step (packed p from (suc n))
    ∙ ap₂ (λ (d w : ℕ). d + ones w) (packed_low p from n) (packed_half p from n)
    ∙ ap (λ (c : ℕ). bool_byte (p from) + c) (ones_packed p (suc from) n)

pub count_add : (p : ℕ → Bool) (from m n : ℕ) → count_of p from (m + n) ≡ count_of p from m + count_of p (from + m) n
unfolding count_of
count_add p from zero n = rw (zero-add n, add-zero, zero-add)
count_add p from (suc m) n =
    rw suc-add
    (ap (λ (c : ℕ). bool_byte (p from) + c) (count_add p (suc from) m n)
    ∙ sym (add_assoc (bool_byte (p from)) (count_of p (suc from) m) (count_of p (suc from + m) n))
    ∙ ap (λ (k : ℕ). bool_byte (p from) + count_of p (suc from) m + count_of p k n) (suc-add from m ∙ sym (add-suc from m)))

pub count_le : (p : ℕ → Bool) (from n : ℕ) → count_of p from n ≤ n
unfolding count_of
count_le p from zero = omega arith
count_le p from (suc n) = omega (arith, count_le p (suc from) n, bool_byte_lt (p from))

pub count_agree : (p q : ℕ → Bool) (from n : ℕ) → ((i : ℕ) → i < n → p (from + i) ≡ q (from + i)) → count_of p from n ≡ count_of q from n
count_agree p q from n h = sym (ones_packed p from n) ∙ ap ones (packed_agree p q from n h) ∙ ones_packed q from n

-- one number more: the count rises by one
pub count_insert : (p : ℕ → Bool) (k from n : ℕ) → from ≤ k → k < from + n → p k ≡ false → count_of (λ (L : ℕ). eqb L k || p L) from n ≡ suc (count_of p from n)
unfolding count_of
count_insert p k from zero l h e = absurd (omega arith)
count_insert p k from (suc n) l h e = go (eqb from k) refl (count_insert p k (suc from) n)
  where
    go : (b : Bool) → eqb from k ≡ b
        → (suc from ≤ k → k < suc from + n → p k ≡ false → count_of (λ (L : ℕ). eqb L k || p L) (suc from) n ≡ suc (count_of p (suc from) n))
        → bool_byte (eqb from k || p from) + count_of (λ (L : ℕ). eqb L k || p L) (suc from) n ≡ suc (bool_byte (p from) + count_of p (suc from) n)
    go true b ih =
        let same : from ≡ k = eqb-true from k b in
        let gone : p from ≡ false = ap p same ∙ e in
        let rest : count_of (λ (L : ℕ). eqb L k || p L) (suc from) n ≡ count_of p (suc from) n =
        count_agree (λ (L : ℕ). eqb L k || p L) p (suc from) n (λ i _. rw (ne_eqb (suc from + i) k (λ (z : suc from + i ≡ k). omega arith))) in
        rw (b, gone, rest) (omega arith)
    go false b ih =
        let other : from ≡ k → ⊥ = eqb-false from k b in
        rw (b, ih (lt_of_le-ne l other) (omega arith) e) (omega arith)
