-- The tick account: document 01, "Over any run from power-on, accepted scans that landed on a tick = counts handed out by F4 + the counter
-- now + ticks that found 15 + counts a reset threw away."
use Rattle.std.specs.Prelude.{ℕ, ◌+◌, ◌%◌, ◌≡◌, cond, ◌&&◌, List, [], ◌∷◌, eqb}
use mir.Val.{bool_byte}
use Rattle.paging.specs.declared.Sizes.{Sizes}
use Rattle.paging.specs.declared.Paging.{Paging}
use Rattle.board.specs.declared.record.Board.{Board}
use Rattle.board.specs.Clock.{next_beam, ticks}
use Rattle.board_power.specs.Power.{power_on_refusal}
use Rattle.step_rules.specs.declared.Step.{Step}
use Rattle.step_rules.specs.Kinds.{on_in, on_out, on_scan}
use Rattle.step_rules.specs.Answers.{Reply, step_refusal, step_answer}
use Rattle.runs.specs.Events.{Event, step, refresh, step_on_other, refresh_on_other, overwritten, Machine, next, started}

-- what an accepted step adds to each part of the account: of the record before it, its reply and the step

-- "accepted scans that landed on a tick"
unfoldable pub ticks_landed : Board → Reply → Step → ℕ
ticks_landed b reply s = on_scan s (bool_byte (ticks (next_beam b.rate b.clock.beam))) 0

-- "counts handed out by F4": bits 0 to 3 of the byte
unfoldable pub counts_read : Board → Reply → Step → ℕ
counts_read b reply s = on_in s (λ port. cond (eqb port 0xF4) (reply.byte % 16) 0) 0

-- "ticks that found 15"
unfoldable pub ticks_lost : Board → Reply → Step → ℕ
ticks_lost b reply s = on_scan s (bool_byte (ticks (next_beam b.rate b.clock.beam) && eqb b.clock.counter 15)) 0

-- "counts a reset threw away"
unfoldable pub counts_reset : Board → Reply → Step → ℕ
counts_reset b reply s = on_out s (λ port value. cond (eqb port 0xF8 && eqb (value % 16) 1) b.clock.counter 0) 0

-- what an event adds: a step, if it is accepted
unfoldable pub added : (Board → Reply → Step → ℕ) → Machine → Event → ℕ
added part m (step s boot) = cond (eqb (step_refusal m.board m.ram boot s) 0) (part m.board (step_answer m.board m.ram boot s).reply s) 0
added part m refresh = 0
added part m (step_on_other s ram boot) = cond (eqb (step_refusal m.board ram boot s) 0) (part m.board (step_answer m.board ram boot s).reply s) 0
added part m (refresh_on_other ram picture) = 0
added part m (overwritten picture) = 0

unfoldable pub sum_over : (Board → Reply → Step → ℕ) → Machine → List Event → ℕ
sum_over part m [] = 0
sum_over part m (e ∷ es) = added part m e + sum_over part (next m e) es

unfoldable pub final_machine : Machine → List Event → Machine
final_machine m [] = m
final_machine m (e ∷ es) = final_machine (next m e) es

-- the account, from every accepted power-on, with any RAM and any picture, over every list of events
abbrev pub TickAccount : Type 0
TickAccount =
    (sizes : Sizes) (rate : ℕ) (paging : Paging) (table top : ℕ) (ram picture : List ℕ) (events : List Event)
    → power_on_refusal sizes rate ≡ 0
    → (let m : Machine = started sizes rate paging table top ram picture in
    sum_over ticks_landed m events
    ≡ sum_over counts_read m events + (final_machine m events).board.clock.counter + sum_over ticks_lost m events + sum_over counts_reset m events)
