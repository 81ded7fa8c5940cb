use Rattle.std.proofs.Common.{◌∙◌}
use Rattle.c_calls.proofs.Calls.{draw_ok, draw_err}
use Rattle.c_calls.proofs.pictures.draw_reply.Goals as goal

pub returns-in-Ok : goal.returns-in-Ok
returns-in-Ok c = (c.accepted.ensures ∙ draw_ok _ _ _ _ c.draw.ensures.answer _ c.in-Ok.is, c.draw.ensures.drawn)

pub returns-in-Err : goal.returns-in-Err
returns-in-Err c = (c.refused.ensures ∙ draw_err _ _ _ _ c.draw.ensures.answer _ c.in-Err.is, c.draw.ensures.drawn)
