-- The lines of the set below n are drawn.
use Rattle.std.proofs.Common.{◌≡◌, ◌-◌, ◌≤◌}
use Rattle.lineset.specs.Lines.{member}
use Rattle.picture.specs.Pictures.{painted}
use Rattle.picture.proofs.Painting.{passed}
use Rattle.picture.proofs.paint.View.paint_set.Given as goal

abbrev pub invariant-loop-line : goal.invariant-loop-line
invariant-loop-line l =
    (l.n ≤ 256)
    × (l.picture ≡ painted (passed (member l.lines) l.n) (record { video = l.self.video; ram = l.self.ram.now }) l.initial.picture)

abbrev pub decreases-loop-line : goal.decreases-loop-line
decreases-loop-line l = 256 - l.n
