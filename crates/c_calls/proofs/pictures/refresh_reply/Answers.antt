use Rattle.std.proofs.Common.{◌∙◌}
use Rattle.c_calls.proofs.Calls.{refresh_ok, refresh_err}
use Rattle.c_calls.proofs.pictures.refresh_reply.Goals as goal

pub returns-in-Ok : goal.returns-in-Ok
returns-in-Ok c =
    let e = refresh_ok _ _ _ _ c.refresh.ensures.answer _ c.in-Ok.is in
    (λ i. record { board = e.0 i; word = (c.accepted.ensures ∙ e.1) i }, c.refresh.ensures.drawn)

pub returns-in-Err : goal.returns-in-Err
returns-in-Err c =
    let e = refresh_err _ _ _ _ c.refresh.ensures.answer _ c.in-Err.is in
    (λ i. record { board = e.0 i; word = (c.refused.ensures ∙ e.1) i }, c.refresh.ensures.drawn)
