use Rattle.std.proofs.Common.{refl, not, ap, arith}
use Rattle.facts.specs.Tests.{every}
use Rattle.archive.proofs.Fours.{pair_read, four_before, fresh_one}
use Rattle.archive.proofs.Tests.{search_fails, search_more}
use Rattle.archive.proofs.unique.first_fresh.Goals as goal

pub loop-k-init : goal.loop-k-init
unfolding every
loop-k-init c = refl

pub returns-then-not-four_new : goal.returns-then-not-four_new
returns-then-not-four_new c =
    let before = four_before c.args.rows.now c.loop-k.k (omega arith) _ _ _ _ _ c.four_new.ensures in
    search_fails _ _ _ (fresh_one _ _ _ _ (pair_read _ _ _ c.read-p.ensures) before) _ (omega arith) (ap not c.if-not-four_new.true)

pub loop-k-preserved : goal.loop-k-preserved
loop-k-preserved c =
    let before = four_before c.args.rows.now c.loop-k.k (omega arith) _ _ _ _ _ c.four_new.ensures in
    search_more _ _ _ (fresh_one _ _ _ _ (pair_read _ _ _ c.read-p.ensures) before) c.loop-k.invariant (ap not c.if-not-four_new.false)
