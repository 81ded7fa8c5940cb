use Rattle.std.proofs.Common.{ℕ, ◌∙◌, ap, ◌&&◌}
use Rattle.lineset.specs.declared.LineSet.{LineSet}
use Rattle.lineset.specs.Lines.{set_of, member}
use Rattle.board.specs.Record.{view_of, with_dirty}
use Rattle.board.proofs.Dirty.{store_marks}
use Rattle.board.proofs.record.Board.mark.Goals as goal

pub returns : goal.returns
returns c =
    let s = c.args in
    λ ram at x l ne e.
    ap (λ (d : LineSet). with_dirty s.self d)
    (store_marks s.self.dirty s.self.rate (view_of s.self ram) at x _ _ _ l ne e
    (c.intersection-shown.ensures ∙ ap (λ (z : LineSet). set_of (λ (L : ℕ). member s.lines L && member z L)) c.shown.ensures)
    c.union.ensures)
