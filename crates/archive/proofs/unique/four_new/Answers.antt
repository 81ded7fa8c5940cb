use Rattle.std.proofs.Common.{◌≡◌, refl, sym, ◌∙◌, arith, length}
use Rattle.facts.specs.Tests.{every}
use Rattle.archive.specs.Sound.{is_new}
use Rattle.archive.proofs.Fours.{row_turn, four_end}
use Rattle.archive.proofs.unique.four_new.Goals as goal

pub loop-row-init : goal.loop-row-init
unfolding every
loop-row-init c = refl

pub loop-row-preserved : goal.loop-row-preserved
loop-row-preserved c = row_turn c.args.rows.now _ _ _ _ _ c.loop-row.seen _ c.loop-row.invariant c.one_has-seen.ensures

pub returns : goal.returns
unfolding is_new
returns c = let e : c.loop-row.row-index ≡ length c.args.rows.now = omega arith in sym (rw e at c.loop-row.invariant) ∙ four_end _ _ _ _ _
