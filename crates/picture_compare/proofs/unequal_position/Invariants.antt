-- Every byte before byte i of the line is the same in both pictures.
use Rattle.std.proofs.Common.{◌+◌, ◌-◌, ◌*◌, ◌≤◌}
use Rattle.picture_compare.proofs.Differences.{Alike}
use Rattle.picture_compare.proofs.unequal_position.Given as goal

abbrev pub invariant-lines : goal.invariant-lines
invariant-lines l = (l.line ≤ 256) × Alike l.a l.b (l.line * 90)

abbrev pub decreases-lines : goal.decreases-lines
decreases-lines l = 256 - l.line

abbrev pub invariant-loop-i : goal.invariant-loop-i
invariant-loop-i l = (l.i ≤ 90) × Alike l.a l.b (l.line * 90 + l.i)

abbrev pub decreases-loop-i : goal.decreases-loop-i
decreases-loop-i l = 90 - l.i
