-- A step keeps the record good: each part by its own formula.
-- Assumes nothing.
use Prim.Native.Nat.{ℕ, ◌+◌, ◌≤◌, ◌<◌, min}
use native.Mathlib.Omega.{arith}
use mathlib.Core.Path.{◌≡◌, refl, sym, ◌∙◌}
use mathlib.Core.Bool.{Bool, true, false, cond, not, ◌&&◌, ◌||◌}
use mathlib.Core.List.{List}
use borrow.Author.Tests.{leb-false, le-leb, ltb-true}
use lib.Dec.{eqb, ltb, leb}
use lib.ListN.{length}
use Rattle.facts.proofs.Bools.{cond_kept, bool_byte_le}
use Rattle.lineset.specs.declared.LineSet.{LineSet}
use Rattle.lineset.specs.Lines.{set_of, member, inside, is_shown, shown_set}
use Rattle.lineset.proofs.Sets.{Words, words_set, member_set}
use Rattle.lineset.proofs.Shown.{inside_at, inside_made}
use Rattle.scanline.specs.Drawing.{View, changed}
use Rattle.board.specs.declared.record.Board.{Board}
use Rattle.board.specs.declared.record.Boot.{Boot}
use Rattle.board.specs.declared.record.Clock.{Clock}
use Rattle.board.specs.declared.record.Disc.{Disc}
use Rattle.board.specs.Clock.{frame, next_beam, ticks, scanned}
use Rattle.board.specs.Record.{good, good_clock, good_boot, good_disc, good_flags, view_of}
use Rattle.board.specs.Dirty.{marked, dirty_after}
use Rattle.board.specs.Registers.{obeyed, clock_commanded, boot_commanded, disc_commanded, driven_commanded, bleeper_commanded}
use Rattle.board.proofs.Good.{Parts, good_parts, parts_good, clock_ranges, clock_good, boot_ranges, boot_good, DiscRanges, disc_ranges, FlagRanges, flag_ranges, flags_good}
use Rattle.step_rules.specs.declared.Step.{Step}
use Rattle.step_rules.specs.declared.Step.TheVariants.{Fetch, Read, Write, PortIn, PortOut, Scan, Key, DiscLine, ExternalLine}
use Rattle.step_rules.specs.After.{clock_after, boot_fetched, boot_after, disc_after, ram_after, parts_after, board_after}
use Rattle.step_rules.specs.Answers.{stream_ended, state_refusal, nmi_line, nmi_shown, step_answer}
use Rattle.step_rules.proofs.ByKind.{on_in_lem, on_out_lem, on_scan_lem, on_disc_lem, on_external_lem}
use Rattle.step_rules.proofs.After.{after_step}
use Rattle.step_rules.proofs.Answers.{lent_boot, lent_none, state_none}

-- a choice between two numbers in range
in_range_lem : (k : ℕ) (t : Bool) {m n : ℕ} → m ≤ k → n ≤ k → cond t m n ≤ k
in_range_lem k t h l = cond_kept (λ (z : ℕ). z ≤ k) t h l

-- what a command keeps, a write to any port keeps
out_kept : {A : Type 0} (P : A → Type 0) (rule : A → ℕ → A) (x : A) → ((n : ℕ) → P (rule x n)) → P x → (port value : ℕ) → P (obeyed rule x port value)
out_kept P rule x h l port value = cond_kept P (eqb port 0xF8) (h _) l

-- ---- the clock

beam_below : (rate beam : ℕ) → next_beam rate beam < frame rate
unfolding next_beam frame
beam_below rate beam = go (ltb (beam + 1) (cond (eqb rate 50) 312 260)) refl
  where
    pos : (t : Bool) → 0 < cond t 312 260
    pos true = omega arith
    pos false = omega arith

    go : (t : Bool) → ltb (beam + 1) (cond (eqb rate 50) 312 260) ≡ t → cond t (beam + 1) 0 < cond (eqb rate 50) 312 260
    go true e = ltb-true _ _ e
    go false e = pos (eqb rate 50)

clock_kept : (rate : ℕ) (c : Clock) (s : Step) → good_clock rate c ≡ true → good_clock rate (clock_after rate c s) ≡ true
unfolding scanned clock_commanded
clock_kept rate c s g =
    let P : Clock → Type 0 = λ k. good_clock rate k ≡ true in
    let r = clock_ranges rate c g in
    on_scan_lem P s
    (clock_good rate (scanned rate c) (in_range_lem 15 (ticks (next_beam rate c.beam)) {m = min 15 (c.counter + 1)} (omega arith) r.0) (beam_below rate c.beam))
    (on_in_lem P s (λ port. clock_good rate _ (in_range_lem 15 (eqb port 0xF4) (omega arith) r.0) r.1)
    (on_out_lem P s (out_kept P clock_commanded c (λ n. clock_good rate (clock_commanded c n) (in_range_lem 15 (eqb n 1) (omega arith) r.0) r.1) g) g))

-- ---- the boot stream's place

-- a fetch that is not refused with 4 stays in the stream
fetched : (x : Boot) (n : ℕ) → n ≤ 1024 → (eqb x.mode 1 && leb n x.at) ≡ false → x.at ≤ 1024 → (boot_fetched x).at ≤ 1024
fetched x n l e h = go (eqb x.mode 1) e
  where
    go : (t : Bool) → (t && leb n x.at) ≡ false → cond t (x.at + 1) x.at ≤ 1024
    go true f = let k = leb-false n x.at f in omega arith
    go false f = h

commanded_boot : (x : Boot) → good_boot x ≡ true → (n : ℕ) → good_boot (boot_commanded x n) ≡ true
unfolding boot_commanded
commanded_boot x g n =
    let r = boot_ranges x g in
    boot_good (boot_commanded x n) (in_range_lem 1 (eqb n 0) (omega arith) (in_range_lem 1 (eqb n 1) (omega arith) r.0)) (in_range_lem 1024 (eqb n 1) (omega arith) r.1)

boot_kept : (b : Board) (n : ℕ) (s : Step) → n ≤ 1024 → stream_ended b n s ≡ false → good_boot b.boot ≡ true → good_boot (boot_after b.boot s) ≡ true
unfolding stream_ended
boot_kept b n (Fetch address) l e g = let r = boot_ranges b.boot g in boot_good (boot_fetched b.boot) r.0 (fetched b.boot n l e r.1)
boot_kept b n (Read address) l e g = g
boot_kept b n (Write address value) l e g = g
boot_kept b n (PortIn port) l e g = g
boot_kept b n (PortOut port value) l e g = out_kept (λ (x : Boot). good_boot x ≡ true) boot_commanded b.boot (commanded_boot b.boot g) g port value
boot_kept b n Scan l e g = g
boot_kept b n (Key offset value) l e g = g
boot_kept b n (DiscLine on) l e g = g
boot_kept b n (ExternalLine on) l e g = g

-- ---- the disc controller

disc_kept : (d : Disc) (s : Step) → DiscRanges d → DiscRanges (disc_after d s)
unfolding disc_commanded
disc_kept d s r =
    on_disc_lem DiscRanges s (λ on. record { route = r.route; line = bool_byte_le on; terminal = r.terminal; motor = r.motor })
    (on_out_lem DiscRanges s
    (out_kept DiscRanges disc_commanded d
    (λ n. record {
      route = in_range_lem 2 (eqb n 1) (omega arith) (in_range_lem 2 (eqb n 2) (omega arith) (in_range_lem 2 (eqb n 3) (omega arith) (in_range_lem 2 (eqb n 4) (omega arith) r.route)));
      line = r.line;
      terminal = in_range_lem 1 (eqb n 1) (omega arith) (in_range_lem 1 (eqb n 5) (omega arith) (in_range_lem 1 (eqb n 6) (omega arith) r.terminal));
      motor = in_range_lem 1 (eqb n 1) (omega arith) (in_range_lem 1 (eqb n 9) (omega arith) (in_range_lem 1 (eqb n 10) (omega arith) r.motor));
    })
    r)
    r)

-- once NMI is shown, route NMI does not meet the disc line on
shown_disc : (b : Board) → DiscRanges b.disc → good_disc (nmi_shown b).disc ≡ true
unfolding nmi_shown good_disc nmi_line
shown_disc b r = go (eqb b.disc.route 1 && eqb b.disc.line 1) refl
  where
    go : (t : Bool) → (eqb b.disc.route 1 && eqb b.disc.line 1) ≡ t
        → (leb (cond t 0 b.disc.route) 2
        && (leb b.disc.line 1
        && (leb b.disc.terminal_count 1 && (leb b.disc.motor 1 && not (eqb (cond t 0 b.disc.route) 1 && eqb b.disc.line 1)))))
        ≡ true
    go true e = rw (le-leb _ _ r.line, le-leb _ _ r.terminal, le-leb _ _ r.motor)
    go false e = rw (le-leb _ _ r.route, le-leb _ _ r.line, le-leb _ _ r.terminal, le-leb _ _ r.motor, e)

-- ---- the flags

flags_kept : (b : Board) (s : Step) → FlagRanges b → FlagRanges (parts_after b s)
unfolding driven_commanded bleeper_commanded
flags_kept b s f =
    let P : ℕ → Type 0 = λ k. k ≤ 1 in
    record {
      external = on_external_lem P s bool_byte_le f.external;
      driven =
          on_out_lem P s
          (out_kept P driven_commanded b.driven (λ n. in_range_lem 1 (eqb n 1) (omega arith) (in_range_lem 1 (eqb n 7) (omega arith) (in_range_lem 1 (eqb n 8) (omega arith) f.driven))) f.driven)
          f.driven;
      bleeper =
          on_out_lem P s
          (out_kept P bleeper_commanded b.bleeper (λ n. in_range_lem 1 (eqb n 1) (omega arith) (in_range_lem 1 (eqb n 11) (omega arith) (in_range_lem 1 (eqb n 12) (omega arith) f.bleeper))) f.bleeper)
          f.bleeper;
    }

-- ---- the dirty lines: a step marks shown lines alone

dirty_kept : (d : LineSet) (rate : ℕ) (v w : View) → inside d (shown_set rate) ≡ true → inside (dirty_after d rate v w) (shown_set rate) ≡ true
unfolding dirty_after marked
dirty_kept d rate v w e = inside_made _ rate line
  where
    shown : (x y z : Bool) → (x || (y && z)) ≡ true → (x ≡ true → y ≡ true) → y ≡ true
    shown true y z f g = g refl
    shown false true z f g = refl
    shown false false z f g = f

    line : (L : ℕ) → L < 256 → member (set_of (λ (M : ℕ). member d M || (is_shown rate M && changed v w M))) L ≡ true → is_shown rate L ≡ true
    line L l m =
        shown (member d L) (is_shown rate L) (changed v w L) (sym (member_set (λ (M : ℕ). member d M || (is_shown rate M && changed v w M)) L l) ∙ m)
        (inside_at d rate e L l)

-- ---- the record

module _ (b : Board) (ram : List ℕ) (n : ℕ) (s : Step) (g : good b ≡ true) (l : n ≤ 1024) (e : stream_ended b n s ≡ false) where
  p : Parts b
  p = good_parts b g

  after_good : good (nmi_shown (board_after b ram s)) ≡ true
  unfolding nmi_shown board_after
  after_good =
      parts_good (nmi_shown (board_after b ram s))
      (record {
        sizes = p.sizes;
        rate = p.rate;
        clock = clock_kept b.rate b.clock s p.clock;
        boot = boot_kept b n s l e p.boot;
        disc = shown_disc (board_after b ram s) (disc_kept b.disc s (disc_ranges b.disc p.disc));
        flags = unfold good_flags in flags_good (parts_after b s) (flags_kept b s (flag_ranges b p.flags));
        dirty = dirty_kept b.dirty b.rate (view_of b ram) (view_of (parts_after b s) (ram_after b.sizes b.paging ram s)) p.dirty;
      })

-- 4 is not given: the stream has not ended
not_ended : (b : Board) (n : ℕ) (s : Step) → state_refusal b n s ≡ 0 → stream_ended b n s ≡ false
unfolding state_refusal
not_ended b n s e = go (stream_ended b n s) e
  where
    go : (t : Bool) → ◌≡◌ {A = ℕ} (cond t 4 0) 0 → t ≡ false
    go true f = absurd (omega arith)
    go false f = refl

module _ (b : Board) (ram boot : List ℕ) (s : Step) where
  -- a step keeps the record good, accepted or not
  pub step_good : good b ≡ true → good (step_answer b ram boot s).board ≡ true
  step_good g =
      after_step b ram boot s (λ (c : Board) (r : List ℕ). good c ≡ true)
      (λ e.
      after_good b ram (length boot) s g (lent_boot b (length ram) (length boot) (lent_none b ram boot s e))
      (not_ended b (length boot) s (state_none b ram boot s e)))
      (λ ne. g)

  -- the dirty lines stay four words
  pub step_words : Words b.dirty → Words (step_answer b ram boot s).board.dirty
  step_words w = after_step b ram boot s (λ (c : Board) (r : List ℕ). Words c.dirty) (λ e. unfold nmi_shown board_after dirty_after in words_set _) (λ ne. w)

  -- sizes and rate stay
  pub step_sizes : (step_answer b ram boot s).board.sizes ≡ b.sizes
  unfolding nmi_shown board_after
  step_sizes = after_step b ram boot s (λ (c : Board) (r : List ℕ). c.sizes ≡ b.sizes) (λ e. refl) (λ ne. refl)

  pub step_rate : (step_answer b ram boot s).board.rate ≡ b.rate
  unfolding nmi_shown board_after
  step_rate = after_step b ram boot s (λ (c : Board) (r : List ℕ). c.rate ≡ b.rate) (λ e. refl) (λ ne. refl)
