use Rattle.std.proofs.Common.{arith}
use Rattle.archive.proofs.Rows.{rows_cut_at}
use Rattle.archive.proofs.layout.Layout.rows.Goals as goal

pub returns-clause-each : goal.returns-clause-each
returns-clause-each c k l = rows_cut_at _ _ _ k _ c.as_chunks.ensures.front l (omega arith)
