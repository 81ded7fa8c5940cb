-- The bench cases of document 01: one list, one statement. P8 is as document 02, [2], has it.
use Rattle.std.specs.Prelude.{ℕ, ◌+◌, ◌*◌, ◌≡◌, false, List, [], ◌∷◌, ◌++◌, ℤ, pos, ◌-ℤ◌}
use Rattle.paging.specs.declared.Sizes.{Sizes}
use Rattle.paging.specs.declared.Paging.{Paging}
use Rattle.paging.specs.Memory.{place_of, read_block, write_block}
use Rattle.paging.specs.Maps.{map_write, map_read}
use Rattle.scanline.specs.Pointers.{table_index, entry_of, pointer_of}
use Rattle.roll.specs.Roll.{roll_of}
use Rattle.panel.specs.Widen.{doubled_byte}
use Rattle.scanline.specs.Drawing.{pixel_index, drawn_byte}
use Rattle.board.specs.declared.record.Board.{Board}
use Rattle.board.specs.declared.record.Clock.{Clock}
use Rattle.board_power.specs.Power.{fresh_board}
use Rattle.board.specs.Record.{with_clock}
use Rattle.board.specs.Clock.{scanned}
use Rattle.step_rules.specs.declared.Step.TheVariants.{PortIn}
use Rattle.step_rules.specs.After.{board_after}
use Rattle.step_rules.specs.Answers.{step_outcome}

-- a case: its number, what the rules give, and what document 01 says
pub record Case : Type 0 where
  pub number : ℕ
  pub given : List ℤ
  pub said : List ℤ

abbrev sizes : ℕ → ℕ → Sizes
sizes i t = record { internal = i; total = t }

abbrev split : ℕ → Paging
split lock = record { maps = 0x80 ∷ 0x25 ∷ 0x98 ∷ 0x87 ∷ []; lock = lock }

-- 50 Hz, beam 0, disc off, counter 3; the record after a read of F8, and after one of F4 then; the byte that a port gives
abbrev counted : Board
counted = with_clock (fresh_board (sizes 8 8) 50 (split 0x00) 0 0) (record { counter = 3; beam = 0 })

abbrev after_f8 : Board
after_f8 = board_after counted [] (PortIn 0xF8)

abbrev after_f4 : Board
after_f4 = board_after after_f8 [] (PortIn 0xF4)

abbrev port_byte : Board → ℕ → ℤ
port_byte b port = pos (step_outcome b [] [] (PortIn port)).byte

-- counter and beam
abbrev clock : Clock → List ℤ
clock c = pos c.counter ∷ pos c.beam ∷ []

-- one scan on from a beam, with the counter at 0
abbrev scan : ℕ → ℕ → List ℤ
scan rate beam = clock (scanned rate (record { counter = 0; beam = beam }))

-- 15 stands for the case of the address FFFFh, which has no number
abbrev pub cases : List Case
cases =
    record { number = 1; given = pos (map_read (sizes 16 16) false 0x98) ∷ pos (map_write (sizes 16 16) 0x98) ∷ []; said = pos 8 ∷ pos 8 ∷ [] }
    ∷ record { number = 2; given = pos (map_read (sizes 32 32) false 0x98) ∷ pos (map_write (sizes 32 32) 0x98) ∷ []; said = pos 24 ∷ pos 24 ∷ [] }
    ∷ record {
      number = 3;
      given =
          pos (map_read (sizes 32 40) false 0xA7) ∷ pos (map_write (sizes 32 40) 0xA7) ∷ pos (map_read (sizes 32 40) false 0xA8)
          ∷ pos (map_write (sizes 32 40) 0xA8)
          ∷ [];
      said = pos 39 ∷ pos 39 ∷ pos 8 ∷ pos 8 ∷ [];
    }
    ∷ record {
      number = 4;
      given = pos (read_block (sizes 16 16) (split 0x00) 0x4000) ∷ pos (write_block (sizes 16 16) (split 0x00) 0x4000) ∷ [];
      said = pos 2 ∷ pos 5 ∷ [];
    }
    ∷ record {
      number = 5;
      given = pos (read_block (sizes 16 16) (split 0x10) 0x4000) ∷ pos (read_block (sizes 16 16) (split 0x20) 0x4000) ∷ [];
      said = pos 5 ∷ pos 2 ∷ [];
    }
    ∷ record {
      number = 6;
      given = pos (pointer_of (0x98 + 256 * 0x2C)).block ∷ pos (pointer_of (0x98 + 256 * 0x2C)).start ∷ [];
      said = pos 1 ∷ pos 0x1930 ∷ [];
    }
    ∷ record {
      number = 7;
      given = pos (pointer_of (0xFF + 256 * 0xFF)).block ∷ pos (pointer_of (0xFF + 256 * 0xFF)).start ∷ [];
      said = pos 7 ∷ pos 0x3FF7 ∷ [];
    }
    ∷ record {
      number = 8;
      given = pos (pixel_index (pointer_of 0x3EE0) 71) ∷ pos (pixel_index (pointer_of 0x3EE0) 72) ∷ [];
      said = pos (1 * 16384 + 0x3FF8) ∷ pos (2 * 16384 + 0x0000) ∷ [];
    }
    ∷ record { number = 9; given = pos (table_index 0x99) ∷ []; said = pos (4 * 16384 + 0x3200) ∷ [] }
    ∷ record { number = 10; given = pos (entry_of 0xFF 1) ∷ []; said = pos 0 ∷ [] }
    ∷ record {
      number = 11;
      given = port_byte counted 0xF8 ∷ port_byte after_f8 0xF4 ∷ port_byte after_f4 0xF4 ∷ [];
      said = pos 0x53 ∷ pos 0x53 ∷ pos 0x50 ∷ [];
    }
    ∷ record {
      number = 12;
      given =
          pos (drawn_byte 0x40 0xA5) ∷ pos (drawn_byte 0xC0 0xA5) ∷ pos (drawn_byte 0x00 0xA5) ∷ pos (drawn_byte 0x80 0xA5) ∷ pos (doubled_byte 0xA5 0)
          ∷ pos (doubled_byte 0xA5 1)
          ∷ [];
      said = pos 0xA5 ∷ pos 0x5A ∷ pos 0x00 ∷ pos 0xFF ∷ pos 0xCC ∷ pos 0x33 ∷ [];
    }
    ∷ record {
      number = 13;
      given = scan 50 1 ++ scan 50 2 ++ scan 50 311 ++ scan 60 259;
      said = pos 1 ∷ pos 2 ∷ pos 0 ∷ pos 3 ∷ pos 0 ∷ pos 0 ∷ pos 0 ∷ pos 0 ∷ [];
    }
    ∷ record {
      number = 14;
      given = roll_of 255 0 ∷ roll_of 0 255 ∷ roll_of 0 128 ∷ [];
      said = pos 1 ∷ (pos 0 -ℤ pos 1) ∷ (pos 0 -ℤ pos 128) ∷ [];
    }
    ∷ record {
      number = 15;
      given = pos (read_block (sizes 16 16) (split 0x00) 0xFFFF) ∷ pos (write_block (sizes 16 16) (split 0x00) 0xFFFF) ∷ pos (place_of 0xFFFF) ∷ [];
      said = pos 7 ∷ pos 7 ∷ pos 0x3FFF ∷ [];
    }
    ∷ []

-- every case of a list holds
abbrev pub Hold : List Case → Type 0
Hold [] = Unit {0}
Hold (c ∷ cs) = (c.given ≡ c.said) × Hold cs
