-- The tests of a good record in the order in which the code asks them: `good` (law `good_tests`).
use Rattle.std.specs.Prelude.{Bool, not, ◌&&◌, eqb, leb, ltb}
use Rattle.lineset.specs.Lines.{inside, shown_set}
use Rattle.board.specs.declared.record.Board.{Board}
use Rattle.board.specs.Clock.{frame}
use Rattle.board.specs.Record.{good_rate}

-- the rate, and what it bounds
unfoldable pub timing_in_range : Board → Bool
timing_in_range b = good_rate b.rate && (ltb b.clock.beam (frame b.rate) && inside b.dirty (shown_set b.rate))

-- the other numbers, and "never route NMI with the disc line on"
unfoldable pub numbers_in_range : Board → Bool
numbers_in_range b = leb b.clock.counter 15 && (leb b.boot.at 1024 && (leb b.disc.route 2 && not (eqb b.disc.route 1 && eqb b.disc.line 1)))

-- the flags, 0 or 1
unfoldable pub flags_in_range : Board → Bool
flags_in_range b =
    leb b.boot.mode 1
    && (leb b.disc.line 1
    && (leb b.disc.terminal_count 1 && (leb b.disc.motor 1 && (leb b.external 1 && (leb b.driven 1 && leb b.bleeper 1)))))
