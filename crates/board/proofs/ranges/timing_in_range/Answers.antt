use Rattle.std.proofs.Common.{rules}
use borrow.Author.Tests.{eq-eqb, ne_eqb}
use Rattle.lineset.proofs.Sets.{Words, words_of}
use Rattle.board.proofs.Timing.{at_50, not_at_50}
use Rattle.board.proofs.ranges.timing_in_range.Goals as goal

pub returns-then-b-eq50 : goal.returns-then-b-eq50
returns-then-b-eq50 c =
    let w : Words c.args.b.dirty = words_of (search rules) (λ j. search rules) in
    rw c.frame_scans-scans.ensures (at_50 c.args.b w (eq-eqb c.args.b.rate 50 c.if-b-eq50.true))

pub returns : goal.returns
returns c =
    let w : Words c.args.b.dirty = words_of (search rules) (λ j. search rules) in
    rw c.frame_scans-scans.ensures (not_at_50 c.args.b w (ne_eqb c.args.b.rate 50 c.if-b-eq50.false))
