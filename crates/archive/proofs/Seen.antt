-- Tests made without leaving early: the or of what was seen so far is zero exactly if every test held.
-- Assumes nothing.
use Prim.Native.Nat.{ℕ, ◌+◌}
use native.Mathlib.Nat.{zero-add}
use native.Mathlib.Omega.{arith}
use mathlib.Core.Path.{◌≡◌, sym, ◌∙◌}
use mathlib.Core.Bool.{Bool, true}
use mathlib.Core.List.{List}
use borrow.Author.Tests.{eq-eqb, eqb-true}
use lib.Bits.{bit_or}
use lib.Dec.{eqb}
use lib.ListN.{get_or}
use Rattle.facts.specs.Tests.{every}
use Rattle.facts.proofs.Bits.{or_zero}
use Rattle.facts.proofs.Bools.{hold_alike}
use Rattle.facts.proofs.Tests.{below_at, below_all, below_more}
use Rattle.archive.specs.Sound.{is_zero}

-- one test more, of which x is zero exactly if it holds
module _ (p : ℕ → Bool) (i seen x : ℕ) (so_far : every p 0 i ≡ eqb seen 0) (is : p i ≡ eqb x 0) where
  none : every p 0 (i + 1) ≡ true → eqb (bit_or seen x) 0 ≡ true
  none h =
      let e : every p 0 i ≡ true = below_all p i (λ k l. below_at p (i + 1) k h (omega arith)) in
      rw (eqb-true seen 0 (sym so_far ∙ e), eqb-true x 0 (sym is ∙ below_at p (i + 1) i h (omega arith)))

  all : eqb (bit_or seen x) 0 ≡ true → every p 0 (i + 1) ≡ true
  all h =
      let z = or_zero seen x (eqb-true (bit_or seen x) 0 h) in
      below_more p i (so_far ∙ eq-eqb seen 0 z.0) (is ∙ eq-eqb x 0 z.1)

  seen_turn : every p 0 (i + 1) ≡ eqb (bit_or seen x) 0
  seen_turn = hold_alike (every p 0 (i + 1)) (eqb (bit_or seen x) 0) none all

-- a byte that is to be zero
pub zero_turn : (a : List ℕ) (i seen : ℕ) → every (is_zero a 0) 0 i ≡ eqb seen 0 → every (is_zero a 0) 0 (i + 1) ≡ eqb (bit_or seen (get_or a i 0)) 0
unfolding is_zero
zero_turn a i seen h = seen_turn (is_zero a 0) i seen (get_or a i 0) h (rw zero-add)
