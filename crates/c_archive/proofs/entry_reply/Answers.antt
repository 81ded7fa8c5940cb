use Rattle.c_archive.proofs.Small.{entry_fits, entry_is}
use Rattle.c_archive.proofs.entry_reply.Goals as goal

pub entry_read_reply-requires : goal.entry_read_reply-requires
entry_read_reply-requires c = entry_fits _ _ _ c.entry.ensures

pub returns : goal.returns
returns c = entry_is _ _ _ c.entry.ensures _ c.entry_read_reply.ensures
