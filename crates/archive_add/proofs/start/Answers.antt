use Rattle.std.proofs.Common.{arith}
use Rattle.archive_add.proofs.Adding.{start_done}
use Rattle.archive_add.proofs.start.Goals as goal

pub returns-clause-room : goal.returns-clause-room
returns-clause-room c = (start_done c.args.room.now (omega arith) _ c.put_header.ensures).1
