use Rattle.picture.proofs.Painting.{lines_start, lines_turn}
use Rattle.picture.proofs.paint.View.paint_first.Goals as goal

pub loop-line-init : goal.loop-line-init
loop-line-init c = lines_start _ _

pub loop-line-preserved : goal.loop-line-preserved
loop-line-preserved c = lines_turn _ _ _ _ _ c.loop-line.invariant c.paint_line.ensures
