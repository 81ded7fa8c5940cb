use Rattle.std.proofs.Common.{◌∙◌}
use Rattle.joyce.proofs.Widen.{widen_ok, widen_err}
use Rattle.joyce.proofs.plain.joyce_widen.Goals as goal

pub returns-in-Ok : goal.returns-in-Ok
returns-in-Ok c = (widen_ok _ _ _ c.widen.ensures.value c.in-Ok.is, c.widen.ensures.out_after)

pub returns-in-Err : goal.returns-in-Err
returns-in-Err c = (c.from.ensures ∙ widen_err _ _ _ c.widen.ensures.value _ c.in-Err.is, c.widen.ensures.out_after)
