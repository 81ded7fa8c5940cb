use Rattle.std.proofs.Common.{arith}
use Rattle.archive_add.proofs.PutDown.{entry_put}
use Rattle.archive_add.proofs.parts.put_entry.Goals as goal

pub returns : goal.returns
returns c =
    entry_put _ _ _ _ _ _ _ _ _ _ (omega arith) c.write4.ensures c.write4-2.ensures c.write4-3.ensures c.write4-4.ensures
