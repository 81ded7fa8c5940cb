use Rattle.std.proofs.Common.{rules, sym, ◌∙◌, ap}
use Rattle.lineset.specs.declared.LineSet.{LineSet}
use Rattle.lineset.proofs.Sets.{Words, words_of}
use Rattle.board.specs.Record.{with_dirty}
use Rattle.board.proofs.Dirty.{registers_same, registers_differ}
use Rattle.board.proofs.record.Board.mark_video.Goals as goal

pub returns-then-not-video_differs : goal.returns-then-not-video_differs
returns-then-not-video_differs c =
    let s = c.args in
    let w : Words s.self.dirty = words_of (search rules) (λ j. search rules) in
    λ ram. ap (λ (d : LineSet). with_dirty s.self d)
    (sym
    (registers_same s.self.dirty s.self.rate ram s.before s.self.video w
    (sym c.video_differs.ensures ∙ c.if-not-video_differs.true)))

pub returns : goal.returns
returns c =
    let s = c.args in
    λ ram. ap (λ (d : LineSet). with_dirty s.self d)
    (c.with_shown.ensures
    ∙ registers_differ s.self.dirty s.self.rate ram s.before s.self.video
    (sym c.video_differs.ensures ∙ c.if-not-video_differs.false))
