-- What a widening that may be refused gives C.
-- Assumes nothing.
use Prim.Native.Nat.{ℕ}
use mathlib.Core.Path.{◌≡◌, refl, sym, ◌∙◌, ap}
use mathlib.Core.Bool.{Bool, true, false}
use Rattle.std.specs.Prelude.{Result, Ok, Err}
use Rattle.refusal.specs.declared.Refusal.{Refusal}
use Rattle.refusal.specs.Numbers.{number, named, answered}
use Rattle.panel.specs.Widen.{widen_fits, widen_refusal}
use Rattle.picture.proofs.Answers.{told_ok, told_err}

module _ (n m : ℕ) (r : Result Unit Refusal) (c : r ≡ answered (widen_refusal n m) tt) where
  pub widen_ok : r ≡ Ok tt → 0 ≡ widen_refusal n m
  widen_ok e = sym (told_ok (widen_refusal n m) tt tt r c e).0

  pub widen_err : (e : Refusal) → r ≡ Err e → number e ≡ widen_refusal n m
  unfolding widen_refusal number named
  widen_err e d = ap number (told_err (widen_refusal n m) tt e r c d).1 ∙ go (widen_fits n m) refl
    where
      go : (t : Bool) → widen_fits n m ≡ t → number (named (widen_refusal n m)) ≡ widen_refusal n m
      go true f = absurd ((told_err (widen_refusal n m) tt e r c d).0 (rw f))
      go false f = rw f
