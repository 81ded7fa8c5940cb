use Rattle.std.proofs.Common.{not, ap, ◌∙◌, arith}
use Rattle.archive.proofs.Fours.{pair_read, four_before, four_fails, four_decides}
use Rattle.archive.proofs.unique.four_fresh.Goals as goal

pub returns-then-four_new : goal.returns-then-four_new
returns-then-four_new c =
    let before = four_before c.args.rows.now c.args.k (omega arith) _ _ _ _ _ c.four_new.ensures in
    four_decides _ _ _ _ _ _ (pair_read _ _ _ c.read-p.ensures) (pair_read _ _ _ c.read-q.ensures) (pair_read _ _ _ c.read-r.ensures) (pair_read _ _ _ c.read-s.ensures) _ before (ap not c.if-four_new.true) _ c.apart.ensures

pub returns-else-four_new : goal.returns-else-four_new
returns-else-four_new c =
    let before = four_before c.args.rows.now c.args.k (omega arith) _ _ _ _ _ c.four_new.ensures in
    c.if-four_new.false
    ∙ four_fails _ _ _ _ _ _ (pair_read _ _ _ c.read-p.ensures) (pair_read _ _ _ c.read-q.ensures) (pair_read _ _ _ c.read-r.ensures) (pair_read _ _ _ c.read-s.ensures) _ before (ap not c.if-four_new.false)
