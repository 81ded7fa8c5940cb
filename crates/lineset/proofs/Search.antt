-- The first number that a test holds of, from the digits that the test packs.
-- Assumes nothing.
use Prim.Native.Nat.{ℕ, zero, suc, ◌+◌, ◌/◌, ◌%◌, ◌≤◌}
use native.Mathlib.Nat.{add-suc, suc-add, add-zero, zero-add, le_of_suc-le-suc, not-suc-le-zero}
use native.Mathlib.Omega.{arith}
use mathlib.Core.Path.{◌≡◌, refl, sym, ◌∙◌, ap, ap₂}
use mathlib.Core.Bool.{Bool, true, false}
use lib.Count.{count_trailing_zeros, under}
use mir.Val.{bool_byte}
use Rattle.std.specs.Prelude.{Some}
use Rattle.facts.specs.Tests.{first_of}
use Rattle.lineset.specs.Lines.{packed}
use Rattle.lineset.proofs.Packed.{packed_low, packed_half}

digit_zero : (b : Bool) → bool_byte b ≡ 0 → b ≡ false
digit_zero true e = absurd (omega arith)
digit_zero false e = refl

-- past n numbers that p holds of none of
pub first_none : (p : ℕ → Bool) (from n m : ℕ) → packed p from n ≡ 0 → first_of p from (n + m) ≡ first_of p (from + n) m
unfolding first_of
first_none p from zero m e = rw (zero-add, add-zero)
first_none p from (suc n) m e =
    let low : bool_byte (p from) ≡ 0 = sym (packed_low p from n) ∙ ap (λ (w : ℕ). w % 2) e in
    let high : packed p (suc from) n ≡ 0 = sym (packed_half p from n) ∙ ap (λ (w : ℕ). w / 2) e in
    rw (suc-add, digit_zero (p from) low)
    (first_none p (suc from) n m high ∙ ap (λ (k : ℕ). first_of p k m) (suc-add from n ∙ sym (add-suc from n)))

-- among n numbers that p holds of one of, the first stands above the trailing zeros
pub first_some : (p : ℕ → Bool) (from n m width : ℕ) → (packed p from n ≡ 0 → ⊥) → n ≤ width
    → first_of p from (n + m) ≡ Some (from + count_trailing_zeros width (packed p from n))
unfolding first_of count_trailing_zeros
first_some p from zero m width ne l = absurd (ne (unfold packed in refl))
first_some p from (suc n) m zero ne l = absurd (not-suc-le-zero l)
first_some p from (suc n) m (suc width) ne l =
    rw suc-add (go (p from) refl (first_some p (suc from) n m width))
  where
    tz : count_trailing_zeros (suc width) (packed p from (suc n)) ≡ under (bool_byte (p from)) (count_trailing_zeros width (packed p (suc from) n))
    tz = ap₂ (λ (d w : ℕ). under d (count_trailing_zeros width w)) (packed_low p from n) (packed_half p from n)

    go : (b : Bool) → p from ≡ b → ((packed p (suc from) n ≡ 0 → ⊥) → n ≤ width
        → first_of p (suc from) (n + m) ≡ Some (suc from + count_trailing_zeros width (packed p (suc from) n)))
        → first_of p from (suc (n + m)) ≡ Some (from + count_trailing_zeros (suc width) (packed p from (suc n)))
    go true e ih = rw (tz, e) (ap Some (sym (add-zero from)))
    go false e ih =
        rw (tz, e)
        (ih (λ z. ne (unfold packed in rw (z, e))) (le_of_suc-le-suc l)
        ∙ ap Some (suc-add from (count_trailing_zeros width (packed p (suc from) n)) ∙ sym (add-suc from (count_trailing_zeros width (packed p (suc from) n)))))
