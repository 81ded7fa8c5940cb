use Rattle.std.proofs.Common.{not, ap, ◌∙◌}
use Rattle.archive.proofs.Fours.{left_fail, fours_decide}
use Rattle.archive.proofs.unique.all_fresh.Goals as goal

pub returns-then-first_fresh : goal.returns-then-first_fresh
returns-then-first_fresh c = fours_decide _ _ _ c.first_fresh.ensures (ap not c.if-first_fresh.true) _ c.fours_fresh.ensures

pub returns-else-first_fresh : goal.returns-else-first_fresh
returns-else-first_fresh c = c.if-first_fresh.false ∙ left_fail _ _ _ c.first_fresh.ensures (ap not c.if-first_fresh.false)
