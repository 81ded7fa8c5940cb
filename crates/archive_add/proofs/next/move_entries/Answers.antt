use Rattle.std.proofs.Common.{◌∙◌, arith}
use Rattle.archive.proofs.Asking.{entry_there}
use Rattle.archive_add.proofs.PutDown.{moved_start, moved_turn}
use Rattle.archive_add.proofs.next.move_entries.Goals as goal

pub loop-k-init : goal.loop-k-init
loop-k-init c = moved_start _ _ _

pub loop-k-preserved : goal.loop-k-preserved
loop-k-preserved c =
    let s = c.args.archive.now.layout.filled in
    moved_turn _ _ _ _ _ _ c.entry_at-e.result (omega arith) c.loop-k.invariant (c.entry_at-e.ensures ∙ entry_there _ _ (omega arith)) c.put_entry.ensures
