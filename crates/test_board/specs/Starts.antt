-- The boards that the test programs start from.
use Rattle.std.specs.Prelude.{[], ◌∷◌}
use Rattle.paging.specs.declared.Paging.{Paging}
use Rattle.paging.specs.declared.Sizes.{Sizes}

-- each bank on the block of its number, none locked
abbrev pub banks : Paging
banks = record { maps = 128 ∷ 129 ∷ 130 ∷ 131 ∷ []; lock = 0 }

-- 128 KB
abbrev pub smallest : Sizes
smallest = record { internal = 8; total = 8 }
