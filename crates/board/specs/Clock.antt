-- The clock: document 01, "Scan".
use Rattle.std.specs.Prelude.{ℕ, ◌+◌, ◌%◌, min, Bool, cond, eqb, ltb}
use Rattle.board.specs.declared.record.Clock.{Clock}

-- "a frame has 312 scans on 50 Hz (six of 52) and 260 on 60 Hz"
unfoldable pub frame : ℕ → ℕ
frame rate = cond (eqb rate 50) 312 260

-- "Beam goes up by one, from the last to 0"
unfoldable pub next_beam : ℕ → ℕ → ℕ
next_beam rate beam = cond (ltb (beam + 1) (frame rate)) (beam + 1) 0

-- "If the new beam mod 52 is 2": whether a beam is a tick's
unfoldable pub ticks : ℕ → Bool
ticks beam = eqb (beam % 52) 2

-- "the counter rises by one, and it stays at 15 once there"
unfoldable pub scanned : ℕ → Clock → Clock
scanned rate c = record {
  counter = cond (ticks (next_beam rate c.beam)) (min 15 (c.counter + 1)) c.counter;
  beam = next_beam rate c.beam;
}
