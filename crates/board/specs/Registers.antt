-- What a write to a port does to each part of the record: document 01, "Channels out" and "Power-on and reset".
use Rattle.std.specs.Prelude.{ℕ, ◌-◌, ◌%◌, cond, ◌&&◌, eqb, leb, set}
use Rattle.paging.specs.declared.Paging.{Paging}
use Rattle.scanline.specs.declared.Video.{Video}
use Rattle.board.specs.declared.record.Board.{Board}
use Rattle.board.specs.declared.record.Boot.{Boot}
use Rattle.board.specs.declared.record.Clock.{Clock}
use Rattle.board.specs.declared.record.Disc.{Disc}

-- "F8 obeys value mod 16": a command's rule on a part of the record; no other port gives a command
abbrev pub obeyed : {A : Type 0} → (A → ℕ → A) → A → ℕ → ℕ → A
obeyed rule x port value = cond (eqb port 0xF8) (rule x (value % 16)) x

-- "F0 to F3 maps, F4 lock"
unfoldable pub paging_out : Paging → ℕ → ℕ → Paging
paging_out p port value = record {
  maps = cond (leb 0xF0 port && leb port 0xF3) (set p.maps (port - 0xF0) value) p.maps;
  lock = cond (eqb port 0xF4) value p.lock;
}

-- "F5 table, F6 top line, F7 video"; 1 reset: F7 = 0
unfoldable pub control_commanded : ℕ → ℕ → ℕ
control_commanded control n = cond (eqb n 1) 0 control

unfoldable pub video_out : Video → ℕ → ℕ → Video
video_out v port value = record {
  table = cond (eqb port 0xF5) value v.table;
  top = cond (eqb port 0xF6) value v.top;
  control = cond (eqb port 0xF7) value (obeyed control_commanded v.control port value);
}

-- 1 reset: counter 0; the beam stays
unfoldable pub clock_commanded : Clock → ℕ → Clock
clock_commanded c n = record { counter = cond (eqb n 1) 0 c.counter; beam = c.beam }

-- 0 end boot, 1 reset: boot mode, stream place 0
unfoldable pub boot_commanded : Boot → ℕ → Boot
boot_commanded x n = record { mode = cond (eqb n 0) 0 (cond (eqb n 1) 1 x.mode); at = cond (eqb n 1) 0 x.at }

-- 1 reset; 2 disc to NMI, 3 disc to INT, 4 neither; 5/6 terminal count on/off; 9/10 motor on/off
unfoldable pub disc_commanded : Disc → ℕ → Disc
disc_commanded d n = record {
  route = cond (eqb n 1) 0 (cond (eqb n 2) 1 (cond (eqb n 3) 2 (cond (eqb n 4) 0 d.route)));
  line = d.line;
  terminal_count = cond (eqb n 1) 1 (cond (eqb n 5) 1 (cond (eqb n 6) 0 d.terminal_count));
  motor = cond (eqb n 1) 0 (cond (eqb n 9) 1 (cond (eqb n 10) 0 d.motor));
}

-- 1 reset: driven; 7/8 drive/float
unfoldable pub driven_commanded : ℕ → ℕ → ℕ
driven_commanded x n = cond (eqb n 1) 1 (cond (eqb n 7) 1 (cond (eqb n 8) 0 x))

-- 1 reset: off; 11/12 bleeper on/off
unfoldable pub bleeper_commanded : ℕ → ℕ → ℕ
bleeper_commanded x n = cond (eqb n 1) 0 (cond (eqb n 11) 1 (cond (eqb n 12) 0 x))

-- the record after a write to a port, but for its dirty lines
unfoldable pub written : Board → ℕ → ℕ → Board
written b port value = record {
  sizes = b.sizes;
  rate = b.rate;
  paging = paging_out b.paging port value;
  video = video_out b.video port value;
  clock = obeyed clock_commanded b.clock port value;
  boot = obeyed boot_commanded b.boot port value;
  disc = obeyed disc_commanded b.disc port value;
  external = b.external;
  driven = obeyed driven_commanded b.driven port value;
  bleeper = obeyed bleeper_commanded b.bleeper port value;
  dirty = b.dirty;
}
