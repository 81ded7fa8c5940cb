-- A good record's counter and stream place are in range.
use Rattle.std.proofs.Common.{rules, ◌≡◌, true}
use Rattle.lineset.proofs.Sets.{words_of}
use Rattle.board.specs.Record.{good}
use Rattle.board.proofs.Good.{good_counter, good_place}
use Rattle.step.proofs.lent.GoodBoard.lent.Goals as goal

pub invariant_of-result : goal.invariant_of-result
invariant_of-result c =
    let b = c.args.board in
    let g : good b ≡ true = cc in
    record { checked = record { counter = good_counter b g; place = good_place b g; words = words_of (search rules) (λ j. search rules) } }
