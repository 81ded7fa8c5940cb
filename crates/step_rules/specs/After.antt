-- What a step does to each part of the record and to the RAM: document 01, "Steps". A part is a formula of that part and the step.
use Rattle.std.specs.Prelude.{ℕ, ◌+◌, Bool, cond, List, eqb, set}
use mir.Val.{bool_byte}
use Rattle.paging.specs.declared.Sizes.{Sizes}
use Rattle.paging.specs.declared.Paging.{Paging}
use Rattle.paging.specs.Memory.{write_index, keyboard_index}
use Rattle.scanline.specs.declared.Video.{Video}
use Rattle.board.specs.declared.record.Board.{Board}
use Rattle.board.specs.declared.record.Boot.{Boot}
use Rattle.board.specs.declared.record.Clock.{Clock}
use Rattle.board.specs.declared.record.Disc.{Disc}
use Rattle.board.specs.Clock.{scanned}
use Rattle.board.specs.Dirty.{with_marks}
use Rattle.board.specs.Registers.{obeyed, paging_out, video_out, clock_commanded, boot_commanded, disc_commanded, driven_commanded, bleeper_commanded}
use Rattle.step_rules.specs.declared.Step.{Step}
use Rattle.step_rules.specs.Kinds.{on_fetch, on_write, on_in, on_out, on_scan, on_key, on_disc, on_external}

abbrev pub paging_after : Paging → Step → Paging
paging_after p s = on_out s (paging_out p) p

abbrev pub video_after : Video → Step → Video
video_after v s = on_out s (video_out v) v

-- "F4 gives the same byte and then clears the counter"
abbrev pub clock_read : Clock → ℕ → Clock
clock_read c port = record { counter = cond (eqb port 0xF4) 0 c.counter; beam = c.beam }

abbrev pub clock_after : ℕ → Clock → Step → Clock
clock_after rate c s = on_scan s (scanned rate c) (on_in s (clock_read c) (on_out s (obeyed clock_commanded c) c))

-- "In boot mode a fetch takes the stream's next byte and moves its place on"
abbrev pub boot_fetched : Boot → Boot
boot_fetched x = record { mode = x.mode; at = cond (eqb x.mode 1) (x.at + 1) x.at }

abbrev pub boot_after : Boot → Step → Boot
boot_after x s = on_fetch s (λ address. boot_fetched x) (on_out s (obeyed boot_commanded x) x)

abbrev pub disc_switched : Disc → Bool → Disc
disc_switched d on = record { route = d.route; line = bool_byte on; terminal_count = d.terminal_count; motor = d.motor }

abbrev pub disc_after : Disc → Step → Disc
disc_after d s = on_disc s (disc_switched d) (on_out s (obeyed disc_commanded d) d)

abbrev pub external_after : ℕ → Step → ℕ
external_after x s = on_external s bool_byte x

abbrev pub driven_after : ℕ → Step → ℕ
driven_after x s = on_out s (obeyed driven_commanded x) x

abbrev pub bleeper_after : ℕ → Step → ℕ
bleeper_after x s = on_out s (obeyed bleeper_commanded x) x

-- "A data write stores its value at the write block and place .. A keyboard word stores at block 3, place 3FF0h + offset."
abbrev pub ram_after : Sizes → Paging → List ℕ → Step → List ℕ
ram_after sizes paging ram s =
    on_write s (λ address value. set ram (write_index sizes paging address) value) (on_key s (λ offset value. set ram (keyboard_index offset) value) ram)

-- the record after a step, part by part, but for its dirty lines
abbrev pub parts_after : Board → Step → Board
parts_after b s = record {
  sizes = b.sizes;
  rate = b.rate;
  paging = paging_after b.paging s;
  video = video_after b.video s;
  clock = clock_after b.rate b.clock s;
  boot = boot_after b.boot s;
  disc = disc_after b.disc s;
  external = external_after b.external s;
  driven = driven_after b.driven s;
  bleeper = bleeper_after b.bleeper s;
  dirty = b.dirty;
}

-- and with them
unfoldable pub board_after : Board → List ℕ → Step → Board
board_after b ram s = with_marks b ram (parts_after b s) (ram_after b.sizes b.paging ram s)
