use Rattle.std.proofs.Common.{◌∙◌}
use Rattle.c_archive.specs.Replies.{count_reply}
use Rattle.c_archive.proofs.Small.{count_parts}
use Rattle.c_archive.proofs.count_reply.Goals as goal

pub returns : goal.returns
unfolding count_reply
returns c = c.reply.ensures ∙ rw (count_parts _ _ _ c.count.ensures c.parts-count.ensures)
