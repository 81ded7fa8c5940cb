-- What a good record tells, part by part, and back.
-- Assumes nothing.
use Prim.Native.Nat.{ℕ, ◌≤◌, ◌<◌}
use mathlib.Core.Path.{◌≡◌}
use mathlib.Core.Bool.{Bool, true, false, ◌&&◌}
use borrow.Author.Tests.{not-true, leb-true, ltb-true, le-leb, lt-ltb}
use lib.Dec.{eqb, leb, ltb}
use Rattle.lineset.specs.Lines.{inside, shown_set}
use Rattle.paging.specs.Maps.{allowed}
use Rattle.facts.proofs.Bools.{both, both_true, hold_alike}
use Rattle.board.specs.declared.record.Board.{Board}
use Rattle.board.specs.declared.record.Boot.{Boot}
use Rattle.board.specs.declared.record.Clock.{Clock}
use Rattle.board.specs.declared.record.Disc.{Disc}
use Rattle.board.specs.Clock.{frame}
use Rattle.board.specs.Record.{good, good_rate, good_clock, good_boot, good_disc, good_flags}
use Rattle.board.specs.Ranges.{timing_in_range, numbers_in_range, flags_in_range}

-- the parts of a good record
pub record Parts (b : Board) : Type 0 where
  pub sizes : allowed b.sizes ≡ true
  pub rate : good_rate b.rate ≡ true
  pub clock : good_clock b.rate b.clock ≡ true
  pub boot : good_boot b.boot ≡ true
  pub disc : good_disc b.disc ≡ true
  pub flags : good_flags b ≡ true
  pub dirty : inside b.dirty (shown_set b.rate) ≡ true

pub good_parts : (b : Board) → good b ≡ true → Parts b
unfolding good
good_parts b e =
    let s = both (allowed b.sizes) _ e in
    let r = both (good_rate b.rate) _ s.1 in
    let c = both (good_clock b.rate b.clock) _ r.1 in
    let o = both (good_boot b.boot) _ c.1 in
    let d = both (good_disc b.disc) _ o.1 in
    let f = both (good_flags b) _ d.1 in
    record { sizes = s.0; rate = r.0; clock = c.0; boot = o.0; disc = d.0; flags = f.0; dirty = f.1 }

pub parts_good : (b : Board) → Parts b → good b ≡ true
unfolding good
parts_good b p = rw (p.sizes, p.rate, p.clock, p.boot, p.disc, p.flags, p.dirty)

-- the tests as the code asks them
module _ (b : Board) where
  tests : Bool
  tests = allowed b.sizes && (timing_in_range b && (numbers_in_range b && flags_in_range b))

  asked_good : tests ≡ true → good b ≡ true
  unfolding tests timing_in_range numbers_in_range flags_in_range good_clock good_boot good_disc good_flags
  asked_good e =
      let s = both (allowed b.sizes) _ e in
      let t = both (timing_in_range b) _ s.1 in
      let r = both (good_rate b.rate) _ t.0 in
      let i = both (ltb b.clock.beam (frame b.rate)) _ r.1 in
      let n = both (numbers_in_range b) _ t.1 in
      let c = both (leb b.clock.counter 15) _ n.0 in
      let a = both (leb b.boot.at 1024) _ c.1 in
      let d = both (leb b.disc.route 2) _ a.1 in
      let m = both (leb b.boot.mode 1) _ n.1 in
      let l = both (leb b.disc.line 1) _ m.1 in
      let k = both (leb b.disc.terminal_count 1) _ l.1 in
      let o = both (leb b.disc.motor 1) _ k.1 in
      parts_good b
      (record {
        sizes = s.0;
        rate = r.0;
        clock = both_true _ _ c.0 i.0;
        boot = both_true _ _ m.0 a.0;
        disc = both_true _ _ d.0 (both_true _ _ l.0 (both_true _ _ k.0 (both_true _ _ o.0 d.1)));
        flags = o.1;
        dirty = i.1;
      })

  good_asked : good b ≡ true → tests ≡ true
  unfolding tests timing_in_range numbers_in_range flags_in_range good_clock good_boot good_disc good_flags
  good_asked e =
      let p = good_parts b e in
      let c = both (leb b.clock.counter 15) _ p.clock in
      let x = both (leb b.boot.mode 1) _ p.boot in
      let d = both (leb b.disc.route 2) _ p.disc in
      let l = both (leb b.disc.line 1) _ d.1 in
      let k = both (leb b.disc.terminal_count 1) _ l.1 in
      let o = both (leb b.disc.motor 1) _ k.1 in
      both_true _ _ p.sizes
      (both_true _ _ (both_true _ _ p.rate (both_true _ _ c.1 p.dirty))
      (both_true _ _ (both_true _ _ c.0 (both_true _ _ x.1 (both_true _ _ d.0 o.1)))
      (both_true _ _ x.0 (both_true _ _ l.0 (both_true _ _ k.0 (both_true _ _ o.0 p.flags))))))

  pub good_tests : (allowed b.sizes && (timing_in_range b && (numbers_in_range b && flags_in_range b))) ≡ good b
  unfolding tests
  good_tests = hold_alike tests (good b) asked_good good_asked

-- the ranges of each part
module _ (rate : ℕ) (c : Clock) where
  pub clock_ranges : good_clock rate c ≡ true → (c.counter ≤ 15) × (c.beam < frame rate)
  unfolding good_clock
  clock_ranges e = let p = both (leb c.counter 15) _ e in (leb-true _ _ p.0, ltb-true _ _ p.1)

  pub clock_good : c.counter ≤ 15 → c.beam < frame rate → good_clock rate c ≡ true
  unfolding good_clock
  clock_good h l = rw (le-leb _ _ h, lt-ltb _ _ l)

module _ (x : Boot) where
  pub boot_ranges : good_boot x ≡ true → (x.mode ≤ 1) × (x.at ≤ 1024)
  unfolding good_boot
  boot_ranges e = let p = both (leb x.mode 1) _ e in (leb-true _ _ p.0, leb-true _ _ p.1)

  pub boot_good : x.mode ≤ 1 → x.at ≤ 1024 → good_boot x ≡ true
  unfolding good_boot
  boot_good h l = rw (le-leb _ _ h, le-leb _ _ l)

pub record DiscRanges (d : Disc) : Type 0 where
  pub route : d.route ≤ 2
  pub line : d.line ≤ 1
  pub terminal : d.terminal_count ≤ 1
  pub motor : d.motor ≤ 1

pub disc_ranges : (d : Disc) → good_disc d ≡ true → DiscRanges d
unfolding good_disc
disc_ranges d e =
    let p = both (leb d.route 2) _ e in
    let q = both (leb d.line 1) _ p.1 in
    let r = both (leb d.terminal_count 1) _ q.1 in
    let s = both (leb d.motor 1) _ r.1 in
    record { route = leb-true _ _ p.0; line = leb-true _ _ q.0; terminal = leb-true _ _ r.0; motor = leb-true _ _ s.0 }

pub record FlagRanges (b : Board) : Type 0 where
  pub external : b.external ≤ 1
  pub driven : b.driven ≤ 1
  pub bleeper : b.bleeper ≤ 1

pub flag_ranges : (b : Board) → good_flags b ≡ true → FlagRanges b
unfolding good_flags
flag_ranges b e =
    let p = both (leb b.external 1) _ e in
    let q = both (leb b.driven 1) _ p.1 in
    record { external = leb-true _ _ p.0; driven = leb-true _ _ q.0; bleeper = leb-true _ _ q.1 }

pub flags_good : (b : Board) → FlagRanges b → good_flags b ≡ true
unfolding good_flags
flags_good b f = rw (le-leb _ _ f.external, le-leb _ _ f.driven, le-leb _ _ f.bleeper)

pub good_counter : (b : Board) → good b ≡ true → b.clock.counter ≤ 15
good_counter b e = (clock_ranges b.rate b.clock (good_parts b e).clock).0

pub good_place : (b : Board) → good b ≡ true → b.boot.at ≤ 1024
good_place b e = (boot_ranges b.boot (good_parts b e).boot).1

-- "never route NMI with the disc line on"
pub good_nmi : (b : Board) → good b ≡ true → (eqb b.disc.route 1 && eqb b.disc.line 1) ≡ false
unfolding good_disc
good_nmi b e =
    let d = b.disc in
    let p = both (leb d.route 2) _ (good_parts b e).disc in
    let q = both (leb d.line 1) _ p.1 in
    let r = both (leb d.terminal_count 1) _ q.1 in
    not-true _ (both (leb d.motor 1) _ r.1).1
