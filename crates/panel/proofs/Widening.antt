-- Laws of a line widened: a byte from its pixels and back, a list from its rule, and each pixel twice.
-- Assumes nothing.
use mathlib.Core.Path.{◌≡◌, refl, ap, sym, ◌∙◌}
use mathlib.Core.List.{List}
use Prim.Native.Nat.{ℕ, zero, suc, ◌+◌, ◌-◌, ◌*◌, ◌/◌, ◌%◌, ◌^◌, ◌≤◌, ◌<◌}
use native.Mathlib.Nat.{div-div-eq-div-mul, eq-or-lt_of_le, le_of_suc-le-suc, not-suc-le-zero, pow-succ'}
use native.Mathlib.Omega.{arith}
use mathlib.Core.Logic.{⊎_elim}
use lib.Dec.{lit<}
use Rattle.std.specs.Int.{to_be_bytes, w16}
use lib.ListN.{length, get_or, set, length-set}
use lib.Seq.{ext_get_or}
use Rattle.facts.proofs.Filled.{Filled, filled_more}
use Rattle.panel.specs.Widen.{pixel_of, digits, byte_of, doubled_byte, doubled_pair, tabulate, widened_at, widened, pixel_in}
use Rattle.panel.proofs.Table.{length_tabulate, entry}

pixel_small : (b k : ℕ) → pixel_of b k < 2
unfolding pixel_of
pixel_small b k = omega arith

module _ (p : ℕ → ℕ) (small : (k : ℕ) → p k < 2) where
  digits_small : (n : ℕ) → digits p n < 2 ^ n
  unfolding digits
  digits_small zero = lit< tt
  digits_small (suc n) = omega (arith, digits_small n, small n, pow-succ' 2 n)

  -- digit k of n, from the left, is found again
  digit : (n k : ℕ) → k < n → digits p n / 2 ^ (n - suc k) % 2 ≡ p k
  unfolding digits
  digit zero k h = absurd (not-suc-le-zero h)
  digit (suc n) k h =
      ⊎_elim (λ (e : k ≡ n). last e) (λ (l : k < n). before l ∙ digit n k l) (eq-or-lt_of_le (le_of_suc-le-suc h))
    where
      last : k ≡ n → (2 * digits p n + p n) / 2 ^ (suc n - suc k) % 2 ≡ p k
      last e =
          let z : suc n - suc k ≡ 0 = omega arith in
          rw (z, e) (omega (arith, small n))

      before : k < n → (2 * digits p n + p n) / 2 ^ (suc n - suc k) % 2 ≡ digits p n / 2 ^ (n - suc k) % 2
      before l =
          let z : suc n - suc k ≡ suc (n - suc k) = omega arith in
          let half : (2 * digits p n + p n) / 2 ≡ digits p n = omega (arith, small n) in
          rw (z, pow-succ', ← div-div-eq-div-mul, half)

  byte_small : byte_of p < 256
  unfolding byte_of
  byte_small = digits_small 8

  -- the byte made of eight pixels has those pixels
  pixel_byte : (k : ℕ) → k < 8 → pixel_of (byte_of p) k ≡ p k
  unfolding pixel_of byte_of
  pixel_byte k h =
      let z : 7 - k ≡ 8 - suc k = omega arith in
      rw z (digit 8 k h)

pub doubled_small : (b half : ℕ) → doubled_byte b half < 256
unfolding doubled_byte
doubled_small b half = byte_small (λ k. pixel_of b (4 * half + k / 2)) (λ k. pixel_small b (4 * half + k / 2))

pub length_widened : (line : List ℕ) → length (widened line) ≡ 180
unfolding widened
length_widened line = length_tabulate (widened_at line) 0 180

pub get_d_widened : (line : List ℕ) (i : ℕ) → i < 180 → get_or (widened line) i 0 ≡ widened_at line i
unfolding widened
get_d_widened line i h = entry (widened_at line) 180 i h

-- pixel k of a doubled byte is pixel k / 2 of the half that it doubles
pixel_doubled : (b half k : ℕ) → k < 8 → pixel_of (doubled_byte b half) k ≡ pixel_of b (4 * half + k / 2)
unfolding doubled_byte
pixel_doubled b half k h = pixel_byte (λ k. pixel_of b (4 * half + k / 2)) (λ k. pixel_small b (4 * half + k / 2)) k h

-- each pixel twice, over the whole line
pub pixel_twice : (line : List ℕ) (j : ℕ) → j < 1440 → pixel_in (widened line) j ≡ pixel_in line (j / 2)
unfolding pixel_in widened_at
pixel_twice line j h =
    let byte : j / 8 / 2 ≡ j / 2 / 8 = omega arith in
    let place : 4 * (j / 8 % 2) + j % 8 / 2 ≡ j / 2 % 8 = omega arith in
    rw
    (get_d_widened line (j / 8) (omega arith), pixel_doubled (get_or line (j / 8 / 2) 0) (j / 8 % 2) (j % 8) (omega arith), byte, place)

-- byte n of the wide line, by the byte i and the half s that it comes from
side : (line : List ℕ) (n i s : ℕ) → n / 2 ≡ i → n % 2 ≡ s → widened_at line n ≡ doubled_byte (get_or line i 0) s
unfolding widened_at
side line n i s p q = rw (p, q)

pub widened_small : (line : List ℕ) (i : ℕ) → widened_at line i < 256
unfolding widened_at
widened_small line i = doubled_small (get_or line (i / 2) 0) (i % 2)

-- the two bytes of a pair that stands in the table
pub pair_bytes : (line table : List ℕ) (i : ℕ) → get_or line i 0 < 256 → table ≡ tabulate doubled_pair 0 256
    → (get_or table (get_or line i 0) 0 / 256 ≡ widened_at line (2 * i)) × (get_or table (get_or line i 0) 0 % 256 ≡ widened_at line (2 * i + 1))
unfolding doubled_pair
pair_bytes line table i h e =
    let pair : get_or table (get_or line i 0) 0 ≡ doubled_byte (get_or line i 0) 0 * 256 + doubled_byte (get_or line i 0) 1 = ap (λ (t : List ℕ). get_or t (get_or line i 0) 0) e ∙ entry doubled_pair 256 (get_or line i 0) h in
    let small = doubled_small (get_or line i 0) 1 in (
      omega (arith, side line (2 * i) i 0 (omega arith) (omega arith)),
      omega (arith, side line (2 * i + 1) i 1 (omega arith) (omega arith)),
    )

-- the wide line with the two bytes of byte i written
pub filled_pair : (line out pair : List ℕ) (i both : ℕ) → i < 90 → length out ≡ 180 → pair ≡ to_be_bytes w16 both
    → both ≡ doubled_byte (get_or line i 0) 0 * 256 + doubled_byte (get_or line i 0) 1 → Filled (widened_at line) out (2 * i)
    → Filled (widened_at line) (set (set out (2 * i) (get_or pair 0 0)) (2 * i + 1) (get_or pair 1 0)) (2 * (i + 1))
filled_pair line out pair i both h l e d f =
    let left = doubled_small (get_or line i 0) 0 in
    let right = doubled_small (get_or line i 0) 1 in
    let next : 2 * (i + 1) ≡ 2 * i + 1 + 1 = omega arith in
    rw (next, e)
    (filled_more (widened_at line) (set out (2 * i) (both / 256 % 256)) (2 * i + 1) (both % 256) (simp length-set (omega arith)) (omega (arith, side line (2 * i + 1) i 1 (omega arith) (omega arith)))
    (filled_more (widened_at line) out (2 * i) (both / 256 % 256) (omega arith) (omega (arith, side line (2 * i) i 0 (omega arith) (omega arith))) f))

-- the wide line with bytes 2 * n and 2 * n + 1 written
filled_two : (line out out' : List ℕ) (n : ℕ) → n < 90 → length out ≡ 180
    → out' ≡ set (set out (2 * n) (widened_at line (2 * n))) (2 * n + 1) (widened_at line (2 * n + 1))
    → Filled (widened_at line) out (2 * n) → (length out' ≡ 180) × Filled (widened_at line) out' (2 * (n + 1))
filled_two line out out' n h l e f = rw (e, next) (
  simp length-set l,
  filled_more (widened_at line) (set out (2 * n) (widened_at line (2 * n))) (2 * n + 1) (widened_at line (2 * n + 1)) (simp length-set (omega arith)) refl
      (filled_more (widened_at line) out (2 * n) (widened_at line (2 * n)) (omega arith) refl f),
)
  where
    next : 2 * (n + 1) ≡ 2 * n + 1 + 1
    next = omega arith

-- the pairs of three bytes
pub filled_three :
    (line out a b c : List ℕ) (n : ℕ) →
    n + 3 ≤ 90 →
    length out ≡ 180 →
    a ≡ set (set out (2 * n) (widened_at line (2 * n))) (2 * n + 1) (widened_at line (2 * n + 1)) →
    b ≡ set (set a (2 * (n + 1)) (widened_at line (2 * (n + 1)))) (2 * (n + 1) + 1) (widened_at line (2 * (n + 1) + 1)) →
    c ≡ set (set b (2 * (n + 2)) (widened_at line (2 * (n + 2)))) (2 * (n + 2) + 1) (widened_at line (2 * (n + 2) + 1)) →
    Filled (widened_at line) out (2 * n) →
    Filled (widened_at line) c (2 * (n + 3))
filled_three line out a b c n h l e f g q =
    let p = filled_two line out a n (omega arith) l e q in
    let r = filled_two line a b (n + 1) (omega arith) p.0 f p.1 in
    let two : n + 1 + 1 ≡ n + 2 = omega arith in
    let s = filled_two line b c (n + 2) (omega arith) r.0 g (rw two at r.1) in
    let three : n + 2 + 1 ≡ n + 3 = omega arith in
    rw three at s.1

pub filled_all : (line out : List ℕ) (i : ℕ) → 90 ≤ i → length out ≡ 180 → Filled (widened_at line) out (2 * i) → out ≡ widened line
unfolding Filled
filled_all line out i e h f =
    ext_get_or 0 out (widened line) (h ∙ sym (length_widened line)) (λ k l. f k (omega arith) ∙ sym (get_d_widened line k (rw h at l)))
