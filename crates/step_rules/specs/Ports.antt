-- The ports: document 01, "Channels in", "Channels out" and "Passed on".
use Rattle.std.specs.Prelude.{ℕ, ◌+◌, Bool, cond, ◌&&◌, ◌||◌, eqb, ltb, leb}
use Rattle.board.specs.declared.record.Board.{Board}

-- "Passed on ..: 00 in, 01 both, 80 to EF both, FC and FD both."
unfoldable pub forwarded_out : ℕ → Bool
forwarded_out port = eqb port 0x01 || ((leb 0x80 port && leb port 0xEF) || (eqb port 0xFC || eqb port 0xFD))

unfoldable pub forwarded_in : ℕ → Bool
forwarded_in port = eqb port 0x00 || forwarded_out port

-- "Every other channel is refused with 5": the ports of this board are those above, F4 and F8 in, F0 to F8, FA and FB out
unfoldable pub decoded_in : ℕ → Bool
decoded_in port = forwarded_in port || (eqb port 0xF4 || eqb port 0xF8)

unfoldable pub decoded_out : ℕ → Bool
decoded_out port = forwarded_out port || ((leb 0xF0 port && leb port 0xF8) || (eqb port 0xFA || eqb port 0xFB))

-- "F8 gives 64 if beam < 26, plus 32 if the disc line is on, plus 16 on 50 Hz, plus the counter. F4 gives the same byte"
unfoldable pub status_byte : Board → ℕ
status_byte b = cond (ltb b.clock.beam 26) 64 0 + (cond (eqb b.disc.line 1) 32 0 + (cond (eqb b.rate 50) 16 0 + b.clock.counter))
