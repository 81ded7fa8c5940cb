use Rattle.c_archive.proofs.Small.{add_small, add_is}
use Rattle.c_archive.proofs.add_reply.Goals as goal

pub written_reply-requires : goal.written_reply-requires
written_reply-requires c = add_small _ _ _ _ _ _ _ c.add.ensures.length

pub returns : goal.returns
returns c = (add_is _ _ _ _ _ _ _ _ c.add.ensures.length c.written_reply.ensures, c.add.ensures.room)
