-- What a step's kinds may rely on once record and buffers are found good.
use Rattle.std.specs.Prelude.{◌≤◌}
use Rattle.lineset.proofs.Sets.{Words}
use Rattle.board.specs.declared.record.Board.{Board}

pub record Checked (b : Board) : Type 0 where
  pub counter : b.clock.counter ≤ 15
  pub place : b.boot.at ≤ 1024
  pub words : Words b.dirty
