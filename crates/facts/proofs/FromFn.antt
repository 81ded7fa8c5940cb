-- An array that `from_fn` made by a closure that no call changes: what is known of a call at an index is known of the element there.
-- Assumes nothing.
use Prim.Native.Nat.{ℕ, zero, suc, ◌+◌, ◌≤◌, ◌<◌}
use native.Mathlib.Omega.{arith}
use mathlib.Core.Path.{◌≡◌, refl, sym, subst}
use mathlib.Core.Bool.{Bool, true, false}
use mathlib.Core.List.{List}
use borrow.Author.Tests.{eqb-true, eqb-false}
use denote.Param.Members.{Mut, Called}
use lib.Dec.{eqb}
use lib.ListN.{get_or}
use Rattle.std.specs.Array.{IsFromFnResult, IsFromFnResultFrom}

module _ {F : Type 0} (g : Mut F (ℕ × Unit {0}) ℕ) (P : ℕ → ℕ → Type 0) (f : F)
    (gives : (i y : ℕ) (q : F) → Called g f (i, tt) y q → (q ≡ f) × P i y) where
  each_from : (ys : List ℕ) (i n : ℕ) → IsFromFnResultFrom g f ys i n → (j : ℕ) → i ≤ j → j < i + n → P j (get_or ys j 0)
  each_from ys i zero r j lo hi = absurd (omega arith)
  each_from ys i (suc n) r j lo hi = go (eqb j i) refl (λ q. each_from ys (i + 1) n q j)
    where
      here : (r.0 ≡ f) × P i r.1
      here = gives i r.1 r.0 r.3

      go : (b : Bool) → eqb j i ≡ b → (IsFromFnResultFrom g f ys (i + 1) n → i + 1 ≤ j → j < i + 1 + n → P j (get_or ys j 0)) → P j (get_or ys j 0)
      go true e later = subst (λ (k : ℕ). P k (get_or ys k 0)) (sym (eqb-true j i e)) (subst (P i) (sym (r.2.1 0)) here.1)
      go false e later =
          let ne : (j ≡ i → ⊥) = eqb-false j i e in
          later (subst (λ (h : F). IsFromFnResultFrom g h ys (i + 1) n) here.0 r.4) (omega arith) (omega arith)

  pub made_each : {ys : List ℕ} {n : ℕ} → IsFromFnResult g f ys n → (j : ℕ) → j < n → P j (get_or ys j 0)
  made_each {ys} {n} r j l = each_from ys 0 n r.each j (omega arith) (omega arith)
