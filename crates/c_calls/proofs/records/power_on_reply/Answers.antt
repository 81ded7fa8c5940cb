use Rattle.std.proofs.Common.{◌∙◌}
use Rattle.c_calls.proofs.Calls.{power_on_ok, power_on_err}
use Rattle.c_calls.proofs.records.power_on_reply.Goals as goal

pub returns-in-Ok : goal.returns-in-Ok
returns-in-Ok c =
    let e = power_on_ok _ _ _ _ _ _ c.power_on.ensures _ c.in-Ok.is in
    λ i. record { board = e.0 i; word = (c.accepted.ensures ∙ e.1) i }

pub returns-in-Err : goal.returns-in-Err
returns-in-Err c =
    let e = power_on_err _ _ _ _ _ _ c.power_on.ensures _ c.in-Err.is in
    λ i. record { board = (c.zeros.ensures ∙ e.0) i; word = (c.refused.ensures ∙ e.1) i }
