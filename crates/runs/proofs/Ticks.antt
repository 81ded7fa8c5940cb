-- The tick account holds of each accepted step, so of each event, and so of a list of events from power-on.
-- Assumes nothing.
use Prim.Native.Nat.{ℕ, ◌+◌, ◌%◌, ◌≤◌, min}
use native.Mathlib.Omega.{arith}
use mathlib.Core.Path.{◌≡◌, refl, ap}
use mathlib.Core.Bool.{Bool, true, false, cond, ◌&&◌}
use mathlib.Core.List.{List, [], ◌∷◌}
use borrow.Author.Tests.{eqb-true, eqb-false}
use lib.Dec.{eqb, ltb}
use mir.Val.{bool_byte}
use Rattle.board.specs.declared.record.Board.{Board}
use Rattle.board.specs.declared.record.Clock.{Clock}
use Rattle.board.specs.Record.{good}
use Rattle.board.specs.Clock.{next_beam, ticks, scanned}
use Rattle.board.specs.Registers.{clock_commanded}
use Rattle.board.proofs.Good.{good_counter}
use Rattle.board_power.specs.Power.{fresh_board}
use Rattle.board_power.proofs.Power.{power_on_board, power_on_good}
use Rattle.step_rules.specs.declared.Step.{Step}
use Rattle.step_rules.specs.declared.Step.TheVariants.{Fetch, Read, Write, PortIn, PortOut, Scan, Key, DiscLine, ExternalLine}
use Rattle.step_rules.specs.Kinds.{on_in}
use Rattle.step_rules.specs.Ports.{status_byte}
use Rattle.step_rules.specs.After.{clock_after, board_after}
use Rattle.step_rules.specs.Answers.{Reply, port_in_outcome, step_outcome, step_refusal, nmi_shown, step_answer}
use Rattle.step_rules.proofs.After.{accepted_board, accepted_byte, refused_board}
use Rattle.step_rules.proofs.Good.{step_good}
use Rattle.runs.specs.Events.{Event, step, refresh, step_on_other, refresh_on_other, overwritten, Machine, next}
use Rattle.runs.specs.Ticks.{ticks_landed, counts_read, ticks_lost, counts_reset, added, sum_over, final_machine, TickAccount}
use Rattle.runs.proofs.Refresh.{refresh_good, refresh_clock}

-- a scan: the counter rises, or the tick found 15
scan_account : (t : Bool) (c : ℕ) → c ≤ 15 → c + bool_byte t ≡ 0 + cond t (min 15 (c + 1)) c + bool_byte (t && eqb c 15) + 0
scan_account false c l = omega arith
scan_account true c l = go (eqb c 15) refl
  where
    go : (u : Bool) → eqb c 15 ≡ u → c + 1 ≡ 0 + min 15 (c + 1) + bool_byte u + 0
    go true e = let z = eqb-true c 15 e in omega arith
    go false e = let ne : c ≡ 15 → ⊥ = eqb-false c 15 e in omega arith

-- a part handed out or thrown away is gone from the counter
gone : (t : Bool) (c : ℕ) → c ≡ cond t c 0 + cond t 0 c
gone true c = omega arith
gone false c = omega arith

-- bits 0 to 3 of the status byte are the counter
low_bits : (t u v : Bool) (c : ℕ) → c ≤ 15 → (cond t 64 0 + (cond u 32 0 + (cond v 16 0 + c))) % 16 ≡ c
low_bits true true true c l = omega arith
low_bits true true false c l = omega arith
low_bits true false true c l = omega arith
low_bits true false false c l = omega arith
low_bits false true true c l = omega arith
low_bits false true false c l = omega arith
low_bits false false true c l = omega arith
low_bits false false false c l = omega arith

-- what F4 hands out is the counter
module _ (b : Board) (ram boot : List ℕ) (g : good b ≡ true) where
  f4_byte : (port : ℕ) → eqb port 0xF4 ≡ true → (step_outcome b ram boot (PortIn port)).byte % 16 ≡ b.clock.counter
  unfolding step_outcome port_in_outcome status_byte
  f4_byte port f = rw f (low_bits (ltb b.clock.beam 26) (eqb b.disc.line 1) (eqb b.rate 50) b.clock.counter (good_counter b g))

  handed : Step → ℕ
  handed s = on_in s (λ port. cond (eqb port 0xF4) b.clock.counter 0) 0

  read_counter : (s : Step) → step_refusal b ram boot s ≡ 0 → counts_read b (step_answer b ram boot s).reply s ≡ handed s
  unfolding counts_read handed
  read_counter (Fetch address) e = refl
  read_counter (Read address) e = refl
  read_counter (Write address value) e = refl
  read_counter (PortIn port) e = rw (accepted_byte b ram boot (PortIn port) e) (go (eqb port 0xF4) refl)
    where
      go : (t : Bool) → eqb port 0xF4 ≡ t → cond t ((step_outcome b ram boot (PortIn port)).byte % 16) 0 ≡ cond t b.clock.counter 0
      go true f = f4_byte port f
      go false f = refl
  read_counter (PortOut port value) e = refl
  read_counter Scan e = refl
  read_counter (Key offset value) e = refl
  read_counter (DiscLine on) e = refl
  read_counter (ExternalLine on) e = refl

  -- an accepted step
  step_account : (reply : Reply) (s : Step)
      → b.clock.counter + ticks_landed b reply s ≡ handed s + (clock_after b.rate b.clock s).counter + ticks_lost b reply s + counts_reset b reply s
  unfolding ticks_landed handed ticks_lost counts_reset scanned clock_commanded
  step_account reply (Fetch address) = omega arith
  step_account reply (Read address) = omega arith
  step_account reply (Write address value) = omega arith
  step_account reply (PortIn port) = let z = gone (eqb port 0xF4) b.clock.counter in omega arith
  step_account reply (PortOut port value) = commanded (eqb port 0xF8) (eqb (value % 16) 1)
    where
      commanded : (t u : Bool)
          → b.clock.counter + 0
          ≡ 0 + (cond t (record { counter = cond u 0 b.clock.counter; beam = b.clock.beam }) b.clock).counter + 0 + cond (t && u) b.clock.counter 0
      commanded true true = omega arith
      commanded true false = omega arith
      commanded false u = omega arith
  step_account reply Scan = scan_account (ticks (next_beam b.rate b.clock.beam)) b.clock.counter (good_counter b g)
  step_account reply (Key offset value) = omega arith
  step_account reply (DiscLine on) = omega arith
  step_account reply (ExternalLine on) = omega arith

  -- a step, refused or not
  call_account : (s : Step)
      → (let r = (step_answer b ram boot s).reply in
      let taken : ℕ → ℕ = λ n. cond (eqb (step_refusal b ram boot s) 0) n 0 in
      b.clock.counter + taken (ticks_landed b r s)
      ≡ taken (counts_read b r s) + (step_answer b ram boot s).board.clock.counter + taken (ticks_lost b r s) + taken (counts_reset b r s))
  call_account s = go (eqb (step_refusal b ram boot s) 0) refl
    where
      go : (t : Bool) → eqb (step_refusal b ram boot s) 0 ≡ t
          → (let r = (step_answer b ram boot s).reply in
          b.clock.counter + cond t (ticks_landed b r s) 0
          ≡ cond t (counts_read b r s) 0 + (step_answer b ram boot s).board.clock.counter + cond t (ticks_lost b r s) 0 + cond t (counts_reset b r s) 0)
      go true f =
          let e = eqb-true (step_refusal b ram boot s) 0 f in
          rw (read_counter s e, accepted_board b ram boot s e) (unfold nmi_shown board_after in step_account (step_answer b ram boot s).reply s)
      go false f = rw (refused_board b ram boot s (eqb-false (step_refusal b ram boot s) 0 f)) (omega arith)

-- an event, and the record after it
event_account : (m : Machine) (e : Event) → good m.board ≡ true
    → m.board.clock.counter + added ticks_landed m e
    ≡ added counts_read m e + (next m e).board.clock.counter + added ticks_lost m e + added counts_reset m e
unfolding added
event_account m (step s boot) g = call_account m.board m.ram boot g s
event_account m refresh g = let k = ap (λ (c : Clock). c.counter) (refresh_clock m.board m.ram m.picture) in omega arith
event_account m (step_on_other s ram boot) g = call_account m.board ram boot g s
event_account m (refresh_on_other ram picture) g = let k = ap (λ (c : Clock). c.counter) (refresh_clock m.board ram picture) in omega arith
event_account m (overwritten picture) g = omega arith

event_good : (m : Machine) (e : Event) → good m.board ≡ true → good (next m e).board ≡ true
event_good m (step s boot) g = step_good m.board m.ram boot s g
event_good m refresh g = refresh_good m.board m.ram m.picture g
event_good m (step_on_other s ram boot) g = step_good m.board ram boot s g
event_good m (refresh_on_other ram picture) g = refresh_good m.board ram picture g
event_good m (overwritten picture) g = g

-- a list of events from a good record
list_account : (m : Machine) (es : List Event) → good m.board ≡ true
    → m.board.clock.counter + sum_over ticks_landed m es
    ≡ sum_over counts_read m es + (final_machine m es).board.clock.counter + sum_over ticks_lost m es + sum_over counts_reset m es
unfolding sum_over final_machine
list_account m [] g = omega arith
list_account m (e ∷ es) g =
    let one = event_account m e g in
    let rest = list_account (next m e) es (event_good m e g) in
    omega arith

pub tick_account : TickAccount
tick_account sizes rate paging table top ram picture events e =
    rw (power_on_board sizes rate paging table top e)
    (let a =
    list_account (record { board = fresh_board sizes rate paging table top; ram = ram; picture = picture }) events (power_on_good sizes rate paging table top e) in
    let z : (fresh_board sizes rate paging table top).clock.counter ≡ 0 = unfold fresh_board in refl in
    omega arith)
