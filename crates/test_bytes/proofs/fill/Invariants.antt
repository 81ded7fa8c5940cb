use Rattle.std.proofs.Common.{◌≡◌, ◌<◌, ℕ, length, get_or}
use Rattle.test_bytes.specs.Patterns.{pattern}
use Rattle.test_bytes.proofs.fill.Given as goal

abbrev pub invariant-loop-at : goal.invariant-loop-at
invariant-loop-at l = (length l.bytes ≡ length l.fn.bytes) × ((k : ℕ) → k < l.at → get_or l.bytes k 0 ≡ pattern l.first k)
