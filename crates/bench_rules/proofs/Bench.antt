-- Every bench case, by computing.
-- Assumes nothing.
use mathlib.Core.Path.{refl}
use Rattle.paging.specs.Memory.{bank_of, place_of, lock_weight, locked, read_block, write_block}
use Rattle.paging.specs.Maps.{expansion, map_write, map_read}
use Rattle.scanline.specs.Pointers.{table_index, entry_of, pointer_of}
use Rattle.roll.specs.Roll.{roll_of, nearest}
use Rattle.panel.specs.Widen.{pixel_of, digits, byte_of, doubled_byte}
use Rattle.scanline.specs.Drawing.{pixel_index, drawn_byte}
use Rattle.board_power.specs.Power.{fresh_board}
use Rattle.board.specs.Clock.{frame, next_beam, ticks, scanned}
use Rattle.step_rules.specs.Ports.{status_byte}
use Rattle.step_rules.specs.After.{board_after}
use Rattle.step_rules.specs.Answers.{port_in_outcome, step_outcome}
use Rattle.bench_rules.specs.Cases.{cases, Hold}

pub bench : Hold cases
unfolding
    bank_of
    place_of
    lock_weight
    locked
    expansion
    map_write
    map_read
    read_block
    write_block
    table_index
    entry_of
    pointer_of
    pixel_index
    drawn_byte
    pixel_of
    digits
    byte_of
    doubled_byte
    nearest
    roll_of
    fresh_board
    status_byte
    frame
    next_beam
    ticks
    scanned
    board_after
    port_in_outcome
    step_outcome
bench = (refl, (refl, (refl, (refl, (refl, (refl, (refl, (refl, (refl, (refl, (refl, (refl, (refl, (refl, (refl, tt)))))))))))))))
