use Rattle.std.proofs.Common.{◌∙◌}
use Rattle.archive.proofs.Rows.{row_entry}
use Rattle.archive.proofs.layout.Layout.entry.Goals as goal

pub returns : goal.returns
returns c = c.read.ensures ∙ rw (c.rows.ensures.each c.args.k c.requires) (row_entry _ _)
