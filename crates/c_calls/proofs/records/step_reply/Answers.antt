use Rattle.std.proofs.Common.{◌∙◌}
use Rattle.c_calls.proofs.Steps.{step_board, step_ok, step_err}
use Rattle.c_calls.proofs.records.step_reply.Goals as goal

pub returns-in-Ok : goal.returns-in-Ok
returns-in-Ok c =
    let b = step_board _ _ _ _ _ c.step_by_numbers-a.ensures.0 in
    let w = c.accepted.ensures ∙ step_ok _ _ _ _ _ c.step_by_numbers-a.ensures.0 _ c.in-Ok.is in
    (λ i. record { board = b i; word = w i }, c.step_by_numbers-a.ensures.1)

pub returns-in-Err : goal.returns-in-Err
returns-in-Err c =
    let b = step_board _ _ _ _ _ c.step_by_numbers-a.ensures.0 in
    let w = c.refused_step.ensures ∙ step_err _ _ _ _ _ c.step_by_numbers-a.ensures.0 _ c.in-Err.is in
    (λ i. record { board = b i; word = w i }, c.step_by_numbers-a.ensures.1)
