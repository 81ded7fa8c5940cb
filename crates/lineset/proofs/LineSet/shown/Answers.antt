-- `shown`: at each rate the four words are computed.
use Prim.Native.Nat.{ℕ}
use native.Mathlib.Omega.{arith}
use mathlib.Core.Path.{◌≡◌, refl, sym, ◌∙◌, ap}
use borrow.Author.Tests.{ne_eqb}
use lib.Dec.{ltb}
use Rattle.lineset.specs.Lines.{packed, set_of, shown_count, is_shown, shown_set}
use Rattle.lineset.proofs.Operations.{four_words}
use Rattle.lineset.proofs.LineSet.shown.Goals as goal

-- the number of shown lines at a rate that the tests have told
first : (n rate : ℕ) → shown_count rate ≡ n → set_of (λ (L : ℕ). ltb L n) ≡ shown_set rate
unfolding shown_set is_shown
first n rate e = ap (λ (m : ℕ). set_of (λ (L : ℕ). ltb L m)) (sym e)

pub returns-in-50 : goal.returns-in-50
unfolding packed shown_count
returns-in-50 c =
    four_words (λ (L : ℕ). ltb L 256) 0xffff_ffff_ffff_ffff 0xffff_ffff_ffff_ffff 0xffff_ffff_ffff_ffff 0xffff_ffff_ffff_ffff refl refl refl refl
    ∙ first 256 c.args.rate (ap shown_count c.in-50.is)

pub returns-in-60 : goal.returns-in-60
unfolding packed shown_count
returns-in-60 c =
    four_words (λ (L : ℕ). ltb L 200) 0xffff_ffff_ffff_ffff 0xffff_ffff_ffff_ffff 0xffff_ffff_ffff_ffff 0xff refl refl refl refl
    ∙ first 200 c.args.rate (ap shown_count c.in-60.is)

pub returns-in_default : goal.returns-in_default
unfolding packed shown_count
returns-in_default c =
    four_words (λ (L : ℕ). ltb L 0) 0 0 0 0 refl refl refl refl
    ∙ first 0 c.args.rate (simp (ne_eqb c.args.rate 50 (λ (z : c.args.rate ≡ 50). omega arith), ne_eqb c.args.rate 60 (λ (z : c.args.rate ≡ 60). omega arith)))
