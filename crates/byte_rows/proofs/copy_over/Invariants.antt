-- The first i bytes are those of the source.
use Rattle.std.proofs.Common.{◌≡◌, ◌<◌, ℕ, length, get_or}
use Rattle.byte_rows.proofs.copy_over.Given as goal

abbrev pub invariant-loop-i : goal.invariant-loop-i
invariant-loop-i l = (length l.out ≡ length l.fn.out) × ((k : ℕ) → k < l.i → get_or l.out k 0 ≡ get_or l.src k 0)
