use Rattle.std.proofs.Common.{◌∙◌}
use Rattle.c_calls.proofs.Calls.{difference_some, difference_none, difference_err}
use Rattle.c_calls.proofs.pictures.first_difference_reply.Goals as goal

pub returns-in-Ok-Some : goal.returns-in-Ok-Some
returns-in-Ok-Some c = c.accepted.ensures ∙ difference_some _ _ _ c.first_difference.ensures.value _ _ c.in-Ok-Some.is c.in-Ok-Some.field-0-is

pub returns-in-Ok-None : goal.returns-in-Ok-None
returns-in-Ok-None c = c.accepted-in-Ok-None.ensures ∙ difference_none _ _ _ c.first_difference.ensures.value _ c.in-Ok-None.is c.in-Ok-None.field-0-is

pub returns-in-Err : goal.returns-in-Err
returns-in-Err c = c.refused.ensures ∙ difference_err _ _ _ c.first_difference.ensures.value _ c.in-Err.is
