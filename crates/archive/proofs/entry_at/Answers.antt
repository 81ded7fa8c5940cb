use Rattle.std.proofs.Common.{arith}
use Rattle.archive.proofs.Rows.{entry_from}
use Rattle.archive.proofs.Asking.{there}
use Rattle.archive.proofs.entry_at.Goals as goal

pub returns : goal.returns
returns c = there _ _ (omega arith) _ (entry_from _ _ _ c.read.ensures)
