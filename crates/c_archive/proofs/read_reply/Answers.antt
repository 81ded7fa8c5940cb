use Rattle.c_archive.proofs.Small.{read_fits, read_is}
use Rattle.c_archive.proofs.read_reply.Goals as goal

pub entry_read_reply-requires : goal.entry_read_reply-requires
entry_read_reply-requires c = read_fits _ _ _ _ c.read.ensures.entry

pub returns : goal.returns
returns c = (read_is _ _ _ _ c.read.ensures.entry _ c.entry_read_reply.ensures, c.read.ensures.lines)
