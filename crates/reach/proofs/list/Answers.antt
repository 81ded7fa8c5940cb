use Rattle.std.proofs.Common.{sym, ◌∙◌}
use Rattle.reach.proofs.Laws.{refused, accepted}
use Rattle.reach.proofs.list.Goals as goal

pub returns-then-out-count-clause-out_after : goal.returns-then-out-count-clause-out_after
returns-then-out-count-clause-out_after c = sym (refused _ _ (rw c.count.ensures at c.if-out-count.true)).1

pub returns-clause-out_after : goal.returns-clause-out_after
returns-clause-out_after c = c.fill.ensures.out_after ∙ sym (accepted _ _ (rw c.count.ensures at c.if-out-count.false)).1
