use Rattle.board.proofs.Good.{good_tests}
use Rattle.board.proofs.record.Board.is_good.Goals as goal

pub returns : goal.returns
returns c =
    rw (c.allowed-s.ensures, c.timing_in_range-t.ensures, c.numbers_in_range-n.ensures, c.flags_in_range-f.ensures) (good_tests c.args.self)
