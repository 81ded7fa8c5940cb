-- Results packed in one number, and so packed the results that need no record.
use Rattle.std.specs.Prelude.{ℕ, ◌+◌, ◌*◌, cond, [], ◌∷◌}
use Rattle.paging.specs.declared.Sizes.{Sizes}
use Rattle.paging.specs.declared.Paging.{Paging}
use Rattle.paging.specs.Maps.{allowed}
use Rattle.paging.specs.Memory.{place_of, read_block, write_block}
use Rattle.scanline.specs.Pointers.{MadePointer}
use Rattle.scanline.specs.declared.Pointer.{Pointer}

-- sizes and paging from plain numbers
abbrev pub sizes_of : ℕ → ℕ → Sizes
sizes_of internal total = record { internal = internal; total = total }

abbrev pub paging_of : ℕ → ℕ → ℕ → ℕ → ℕ → Paging
paging_of f0 f1 f2 f3 lock = record { maps = f0 ∷ f1 ∷ f2 ∷ f3 ∷ []; lock = lock }

-- a reply of the C interface: bits 0 to 15 a value, 16 on the flags (INT, NMI, forwarded, floating, found), 32 to 39 the refusal, 40 on the rest
unfoldable pub reply : ℕ → ℕ → ℕ → ℕ → ℕ
reply value flags refusal more = value + (65536 * flags + (4294967296 * refusal + 1099511627776 * more))

unfoldable pub made_pointer_reply : MadePointer → ℕ
made_pointer_reply m = reply m.word 0 m.refusal 0

unfoldable pub pointer_reply : Pointer → ℕ
pointer_reply p = reply p.start 0 0 p.block

-- where an access lands: the place, the read block and the write block; 6 for sizes that are not allowed
unfoldable pub reach_reply : Sizes → Paging → ℕ → ℕ
reach_reply s p address =
    cond (allowed s) (reply (place_of address) 0 0 (read_block s p address + 256 * write_block s p address)) (reply 0 0 6 0)
