-- What allowed sizes give: every index that is reached lies in the memory.
-- Assumes nothing.
use Prim.Native.Nat.{ℕ, ◌*◌, ◌%◌, ◌<◌, ◌≤◌}
use native.Mathlib.Omega.{arith}
use mathlib.Core.Path.{◌≡◌}
use mathlib.Core.Bool.{true}
use Rattle.paging.specs.declared.Sizes.{Sizes}
use Rattle.paging.specs.declared.Paging.{Paging}
use Rattle.paging.specs.Maps.{allowed}
use Rattle.paging.specs.Memory.{place_of, write_block, read_block, index_of, write_index, read_index, keyboard_index}
use Rattle.paging.proofs.Maps.{total_at_least, write_below, read_below}

-- a place of a block below n lies in n blocks
index_below : (n block address : ℕ) → block < n → index_of block (address % 16384) < n * 16384
index_below n block address h = omega arith

module _ (s : Sizes) (ok : allowed s ≡ true) where
  pub read_index_below : (p : Paging) (address : ℕ) → read_index s p address < s.total * 16384
  unfolding read_index read_block place_of
  read_index_below p address = index_below _ _ address (read_below s ok _ _)

  pub write_index_below : (p : Paging) (address : ℕ) → write_index s p address < s.total * 16384
  unfolding write_index write_block place_of
  write_index_below p address = index_below _ _ address (write_below s ok _)

  pub keyboard_index_below : (offset : ℕ) → offset ≤ 15 → keyboard_index offset < s.total * 16384
  unfolding keyboard_index
  keyboard_index_below offset h = omega (arith, total_at_least s ok)
