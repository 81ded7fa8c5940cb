-- What allowed sizes give: every block that a map byte names lies in the memory.
-- Assumes nothing.
use Prim.Native.Nat.{ℕ, ◌*◌, ◌/◌, ◌%◌, ◌≤◌, ◌<◌}
use mathlib.Core.Path.{◌≡◌, refl}
use mathlib.Core.Logic.{⊎_elim}
use mathlib.Core.Bool.{Bool, true, false, cond, ◌&&◌, ◌||◌}
use native.Mathlib.Omega.{arith}
use native.Mathlib.Nat.{mod-lt}
use borrow.Author.Tests.{ltb-true, leb-true, eqb-true}
use lib.Dec.{eqb, ltb, leb}
use Rattle.facts.proofs.Bools.{both, either}
use Rattle.paging.specs.declared.Sizes.{Sizes}
use Rattle.paging.specs.Maps.{allowed, ram_fits, expansion, map_write, map_read}

internal_least : (n : ℕ) → eqb n 8 || eqb n 16 || eqb n 32 ≡ true → 8 ≤ n
internal_least n h = ⊎_elim (λ (u : eqb n 8 || eqb n 16 ≡ true). ⊎_elim at_8 at_16 (either (eqb n 8) _ u)) at_32 (either (eqb n 8 || eqb n 16) _ h)
  where
    at_8 : eqb n 8 ≡ true → 8 ≤ n
    at_8 e = omega (arith, eqb-true n 8 e)

    at_16 : eqb n 16 ≡ true → 8 ≤ n
    at_16 e = omega (arith, eqb-true n 16 e)

    at_32 : eqb n 32 ≡ true → 8 ≤ n
    at_32 e = omega (arith, eqb-true n 32 e)

module _ (s : Sizes) (ok : allowed s ≡ true) where
  internal : (eqb s.internal 8 || eqb s.internal 16 || eqb s.internal 32 ≡ true) × ((leb s.internal s.total && leb s.total 128) ≡ true)
  unfolding allowed
  internal = both _ _ ok

  total : (leb s.internal s.total ≡ true) × (leb s.total 128 ≡ true)
  total = both _ _ internal.1

  internal_at_least : 8 ≤ s.internal
  internal_at_least = internal_least s.internal internal.0

  internal_at_most : s.internal ≤ s.total
  internal_at_most = leb-true _ _ total.0

  pub total_at_least : 8 ≤ s.total
  total_at_least = omega (arith, internal_at_least, internal_at_most)

  pub total_at_most : s.total ≤ 128
  total_at_most = leb-true _ _ total.1

  expansion_below : (map : ℕ) → expansion s map < s.total
  unfolding expansion
  expansion_below map = go (ltb (map % 128) s.total) refl
    where
      go : (b : Bool) → ltb (map % 128) s.total ≡ b → cond b (map % 128) (map % 128 % s.internal) < s.total
      go true e = ltb-true _ _ e
      go false e = omega (arith, mod-lt (map % 128) {m = s.internal} (omega (arith, internal_at_least)), internal_at_most)

  pub write_below : (map : ℕ) → map_write s map < s.total
  unfolding map_write
  write_below map = go (leb 128 map)
    where
      go : (b : Bool) → cond b (expansion s map) (map % 8) < s.total
      go true = expansion_below map
      go false = omega (arith, total_at_least)

  pub read_below : (lock : Bool) (map : ℕ) → map_read s lock map < s.total
  unfolding map_read
  read_below lock map = go (leb 128 map) lock
    where
      go : (b l : Bool) → cond b (expansion s map) (cond l (map % 8) (map / 16 % 8)) < s.total
      go true l = expansion_below map
      go false true = omega (arith, total_at_least)
      go false false = omega (arith, total_at_least)

-- a RAM of these sizes has this length
pub ram_length : (s : Sizes) (n : ℕ) → ram_fits s n ≡ true → n ≡ s.total * 16384
unfolding ram_fits
ram_length s n e = eqb-true n (s.total * 16384) e
