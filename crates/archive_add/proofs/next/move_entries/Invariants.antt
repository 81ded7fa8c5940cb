use Rattle.std.proofs.Common.{◌≡◌, ◌+◌}
use Rattle.byte_rows.specs.Rows.{put, rows}
use Rattle.archive_add.specs.Next.{moved_row}
use Rattle.archive_add.proofs.next.move_entries.Given as goal

abbrev pub invariant-loop-k : goal.invariant-loop-k
invariant-loop-k l = l.out ≡ put l.fn.out 20 (rows (moved_row l.archive.layout.bytes.now (l.archive.layout.count + 1)) l.k)
