use Rattle.c_archive.proofs.Small.{start_small, start_is}
use Rattle.c_archive.proofs.start_reply.Goals as goal

pub written_reply-requires : goal.written_reply-requires
written_reply-requires c = start_small _ _ c.start.ensures.length

pub returns : goal.returns
returns c = (start_is _ _ _ c.start.ensures.length c.written_reply.ensures, c.start.ensures.room)
