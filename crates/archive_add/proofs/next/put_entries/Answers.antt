use Rattle.archive_add.proofs.PutDown.{next_entries_lem}
use Rattle.archive_add.proofs.next.put_entries.Goals as goal

pub returns : goal.returns
returns c = next_entries_lem _ _ _ _ _ _ _ _ _ c.put_header.ensures c.move_entries.ensures c.put_entry.ensures
