use Rattle.std.proofs.Common.{refl}
use Rattle.archive_add.proofs.PutDown.{header_put}
use Rattle.archive_add.proofs.parts.put_header.Goals as goal

pub returns : goal.returns
returns c =
    header_put _ _ _ _ _ _ _ _ _ refl refl c.write4.ensures c.write4-2.ensures c.write4-3.ensures c.write4-4.ensures c.write4-5.ensures
