use Rattle.std.proofs.Common.{◌∙◌}
use Rattle.c_calls.proofs.Calls.{next_some, next_none, next_err}
use Rattle.c_calls.proofs.pictures.next_dirty_reply.Goals as goal

pub returns-in-Ok-Some : goal.returns-in-Ok-Some
returns-in-Ok-Some c = c.accepted.ensures ∙ next_some _ _ _ c.min.ensures _ c.next_dirty.ensures.answer _ _ c.in-Ok-Some.is c.in-Ok-Some.field-0-is

pub returns-in-Ok-None : goal.returns-in-Ok-None
returns-in-Ok-None c = c.accepted-in-Ok-None.ensures ∙ next_none _ _ _ c.min.ensures _ c.next_dirty.ensures.answer _ c.in-Ok-None.is c.in-Ok-None.field-0-is

pub returns-in-Err : goal.returns-in-Err
returns-in-Err c = c.refused.ensures ∙ next_err _ _ _ c.min.ensures _ c.next_dirty.ensures.answer _ c.in-Err.is
