-- After i bytes of the line, their bytes are written.
use Rattle.std.proofs.Common.{◌≡◌, ◌*◌, length}
use Rattle.facts.proofs.Filled.{Filled}
use Rattle.panel.specs.Widen.{widened_at}
use Rattle.panel.proofs.doubling.fill.Given as goal

abbrev pub invariant-loop-i : goal.invariant-loop-i
invariant-loop-i l = (length l.out ≡ 180) × Filled (widened_at l.line) l.out (2 * l.i)
