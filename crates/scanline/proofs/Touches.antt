-- Laws of the lines that an index of the RAM touches.
-- Assumes nothing.
use Prim.Native.Nat.{ℕ, ◌+◌, ◌/◌, ◌≤◌, ◌<◌}
use mathlib.Core.Path.{◌≡◌, refl, ◌∙◌}
use mathlib.Core.Bool.{Bool, true, false, ◌||◌}
use mathlib.Core.List.{List}
use native.Mathlib.Omega.{arith}
use borrow.Author.Tests.{eqb-false, eq-eqb, ne_eqb}
use lib.Dec.{eqb}
use Rattle.scanline.proofs.Pointers.{entry_index_lt, entry_index_even}
use Rattle.scanline.proofs.Pixels.{pixels_below}
use Rattle.scanline.specs.Pointers.{entry_index, pointer_word}
use Rattle.scanline.specs.Drawing.{pixel_touched, touches}

module _ (ram : List ℕ) (table top at line : ℕ) where
  -- the two bytes of the pointer
  pub touches_pointer : at / 2 ≡ entry_index table top line / 2 → touches ram table top at line ≡ true
  unfolding touches
  touches_pointer h = go (eqb at (entry_index table top line)) refl
    where
      go : (b : Bool) → eqb at (entry_index table top line) ≡ b → (b || (eqb at (entry_index table top line + 1) || pixel_touched (pointer_word ram table top line) at)) ≡ true
      go true e = refl
      go false e =
          let n : (at ≡ entry_index table top line → ⊥) = eqb-false at (entry_index table top line) e in
          rw (eq-eqb at (entry_index table top line + 1) (omega (arith, entry_index_even table top line)))

  -- any other place
  pub touches_other :
      (at / 2 ≡ entry_index table top line / 2 → ⊥) →
      touches ram table top at line ≡ pixel_touched (pointer_word ram table top line) at
  unfolding touches
  touches_other h =
      rw (
        ne_eqb at (entry_index table top line) (λ (z : at ≡ entry_index table top line). h (omega arith)),
        ne_eqb at (entry_index table top line + 1) (λ (z : at ≡ entry_index table top line + 1). h (omega (arith, entry_index_even table top line))),
      )

  -- standard RAM holds every index that touches a line
  pub touches_past :
      131072 ≤ at →
      table < 256 →
      touches ram table top at line ≡ false
  touches_past p t =
      let e : entry_index table top line + 1 < 131072 = entry_index_lt table top line t in
      touches_other (λ (z : at / 2 ≡ entry_index table top line / 2). omega arith)
      ∙ pixels_below (pointer_word ram table top line) at p
