use Rattle.std.proofs.Common.{arith}
use Rattle.c_archive.proofs.Small.{number_small, number_packed}
use Rattle.c_archive.proofs.written_reply.Goals as goal

pub reply-requires : goal.reply-requires
reply-requires c = (number_small _ _ c.parts-length.ensures c.requires, omega arith)

pub returns : goal.returns
returns c = number_packed _ _ c.parts-length.ensures _ c.reply.ensures
