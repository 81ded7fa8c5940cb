-- Power-on and reset: document 01, "Power-on and reset".
use Rattle.std.specs.Prelude.{ℕ, cond, ◌&&◌, [], ◌∷◌, eqb}
use Rattle.lineset.specs.Lines.{shown_set}
use Rattle.paging.specs.declared.Sizes.{Sizes}
use Rattle.paging.specs.declared.Paging.{Paging}
use Rattle.paging.specs.Maps.{allowed}
use Rattle.board.specs.declared.record.Board.{Board}
use Rattle.board.specs.Record.{good_rate}

-- the record, and a refusal number or 0
pub record PowerOn : Type 0 where
  pub board : Board
  pub refusal : ℕ

-- "a record of zeros"
unfoldable pub zero_board : Board
zero_board = record {
  sizes = record { internal = 0; total = 0 };
  rate = 0;
  paging = record { maps = 0 ∷ 0 ∷ 0 ∷ 0 ∷ []; lock = 0 };
  video = record { table = 0; top = 0; control = 0 };
  clock = record { counter = 0; beam = 0 };
  boot = record { mode = 0; at = 0 };
  disc = record { route = 0; line = 0; terminal_count = 0; motor = 0 };
  external = 0;
  driven = 0;
  bleeper = 0;
  dirty = record { words = 0 ∷ 0 ∷ 0 ∷ 0 ∷ [] };
}

-- "Power-on takes sizes, rate, maps, lock, F5 and F6 from the host .. The rest: boot mode, stream place 0, route none, terminal count on,
-- driven, motor and bleeper off, counter 0, F7 = 0, beam 0, both lines off, all shown lines noted."
unfoldable pub fresh_board : Sizes → ℕ → Paging → ℕ → ℕ → Board
fresh_board sizes rate paging table top = record {
  sizes = sizes;
  rate = rate;
  paging = paging;
  video = record { table = table; top = top; control = 0 };
  clock = record { counter = 0; beam = 0 };
  boot = record { mode = 1; at = 0 };
  disc = record { route = 0; line = 0; terminal_count = 1; motor = 0 };
  external = 0;
  driven = 1;
  bleeper = 0;
  dirty = shown_set rate;
}

-- "6 power-on sizes not allowed, or a rate other than 50 or 60; returns a record of zeros"
unfoldable pub power_on_refusal : Sizes → ℕ → ℕ
power_on_refusal sizes rate = cond (allowed sizes && good_rate rate) 0 6

unfoldable pub powered_on : Sizes → ℕ → Paging → ℕ → ℕ → PowerOn
powered_on sizes rate paging table top = record {
  board = cond (eqb (power_on_refusal sizes rate) 0) (fresh_board sizes rate paging table top) zero_board;
  refusal = power_on_refusal sizes rate;
}

-- "Reset (command 1) sets the same but keeps sizes, rate, maps, lock, F5, F6, beam, both lines, RAM and notes"
abbrev pub reset_board : Board → Board
reset_board b =
    let f = fresh_board b.sizes b.rate b.paging b.video.table b.video.top in
    record {
      sizes = f.sizes;
      rate = f.rate;
      paging = f.paging;
      video = f.video;
      clock = record { counter = f.clock.counter; beam = b.clock.beam };
      boot = f.boot;
      disc = record { route = f.disc.route; line = b.disc.line; terminal_count = f.disc.terminal_count; motor = f.disc.motor };
      external = b.external;
      driven = f.driven;
      bleeper = f.bleeper;
      dirty = b.dirty;
    }
