-- What a step of each kind does, once record and buffers are found good.
-- Assumes nothing.
use Prim.Native.Nat.{ℕ, ◌+◌, ◌≤◌, ◌<◌}
use native.Mathlib.Omega.{arith}
use mathlib.Core.Path.{◌≡◌, refl, sym, ◌∙◌, ap}
use mathlib.Core.Bool.{Bool, true, false, ◌&&◌}
use mathlib.Core.List.{List}
use borrow.Author.Tests.{ne_eqb, eq-eqb, le-leb, lt-leb}
use mir.Val.{bool_byte}
use lib.Dec.{eqb, leb}
use lib.ListN.{get_or, set, length}
use lib.Seq.{set-get_or}
use Rattle.std.specs.Prelude.{Ok, Err}
use Rattle.refusal.specs.declared.Refusal.TheVariants.{BadNumber, StreamEnded, NoPort}
use Rattle.refusal.specs.Numbers.{named}
use Rattle.lineset.specs.declared.LineSet.{LineSet}
use Rattle.lineset.proofs.Sets.{Words}
use Rattle.paging.specs.Memory.{place_of, index_of, read_index, write_block, write_index, keyboard_index}
use Rattle.board.specs.declared.record.Board.{Board}
use Rattle.board.specs.Clock.{scanned}
use Rattle.board.specs.Dirty.{with_marks}
use Rattle.board.specs.Record.{first_refusal, view_of, with_clock, with_disc, with_dirty}
use Rattle.board.specs.Registers.{written}
use Rattle.board.proofs.Dirty.{store_past, store_same}
use Rattle.board.proofs.Registers.{written_past}
use Rattle.step_rules.specs.declared.Outcome.{Outcome}
use Rattle.step_rules.specs.declared.Step.{Step}
use Rattle.step_rules.specs.declared.Step.TheVariants.{Fetch, Read, Write, PortIn, PortOut, Scan, Key, DiscLine, ExternalLine}
use Rattle.step_rules.specs.Ports.{forwarded_in, forwarded_out, decoded_in, decoded_out, status_byte}
use Rattle.step_rules.specs.After.{video_after, ram_after, parts_after, board_after}
use Rattle.step_rules.specs.Answers.{own_refusal, kind_refusal, state_refusal, stream_ended, silent, giving, forwarding, fetched_byte, port_in_outcome, step_outcome, step_effect, effect_ram}
use Rattle.step_rules.proofs.Answers.{own_accepted, own_ram, own_refused, own_kept, ram_kept, plain}
use Rattle.step_rules.proofs.Ports.{forwarded_decoded, written_forwarded, board_port, register_decoded, idle_decoded, out_refused}

module _ (b : Board) (ram boot : List ℕ) where
  -- a kind that keeps RAM and video registers marks no line
  module _ (w : Words b.dirty) (s : Step) where
    unmarked : own_refusal b (length boot) s ≡ 0 → ram_after b.sizes b.paging ram s ≡ ram → video_after b.video s ≡ b.video → (o : Outcome) → step_outcome b ram boot s ≡ o
        → step_effect b ram boot s ≡ record { board = parts_after b s; outcome = Ok o }
    unmarked e r v o f = sym (own_accepted b ram boot s e) ∙ rw (plain b ram boot s r v w, f)

  refused_kind : (s : Step) (n : ℕ) → own_refusal b (length boot) s ≡ n → (n ≡ 0 → ⊥) → step_effect b ram boot s ≡ record { board = b; outcome = Err (named n) }
  refused_kind s n e ne = sym (own_refused b ram boot s n e ne)

  pub read_does : (address : ℕ) → Words b.dirty → step_effect b ram boot (Read address) ≡ record { board = b; outcome = Ok (giving (get_or ram (read_index b.sizes b.paging address) 0)) }
  unfolding own_refusal kind_refusal state_refusal stream_ended first_refusal step_outcome
  read_does address w = unmarked w (Read address) refl refl refl _ refl

  pub scan_does : Words b.dirty → step_effect b ram boot Scan ≡ record { board = with_clock b (scanned b.rate b.clock); outcome = Ok silent }
  unfolding own_refusal kind_refusal state_refusal stream_ended first_refusal step_outcome
  scan_does w = unmarked w Scan refl refl refl _ refl

  pub disc_does : (on : Bool) → Words b.dirty
      → step_effect b ram boot (DiscLine on)
      ≡ record {
        board = with_disc b (record { route = b.disc.route; line = bool_byte on; terminal_count = b.disc.terminal_count; motor = b.disc.motor });
        outcome = Ok silent;
      }
  unfolding own_refusal kind_refusal state_refusal stream_ended first_refusal step_outcome
  disc_does on w = unmarked w (DiscLine on) refl refl refl _ refl

  pub external_does : (on : Bool) → Words b.dirty
      → step_effect b ram boot (ExternalLine on) ≡ record { board = parts_after b (ExternalLine on); outcome = Ok silent }
  unfolding own_refusal kind_refusal state_refusal stream_ended first_refusal step_outcome
  external_does on w = unmarked w (ExternalLine on) refl refl refl _ refl

  pub write_does : (address value : ℕ) → step_effect b ram boot (Write address value) ≡ record { board = board_after b ram (Write address value); outcome = Ok silent }
  unfolding own_refusal kind_refusal state_refusal stream_ended first_refusal step_outcome
  write_does address value = sym (own_accepted b ram boot (Write address value) refl)

  pub write_stores : (address value : ℕ) → effect_ram b ram boot (Write address value) ≡ ram_after b.sizes b.paging ram (Write address value)
  unfolding own_refusal kind_refusal state_refusal stream_ended first_refusal
  write_stores address value = sym (own_ram b ram boot (Write address value) refl)

  -- a fetch
  module _ (address : ℕ) where
    pub fetch_reads : (b.boot.mode ≡ 1 → ⊥) → Words b.dirty
        → step_effect b ram boot (Fetch address) ≡ record { board = b; outcome = Ok (giving (get_or ram (read_index b.sizes b.paging address) 0)) }
    unfolding own_refusal kind_refusal state_refusal stream_ended first_refusal step_outcome fetched_byte
    fetch_reads ne w =
        let m : eqb b.boot.mode 1 ≡ false = ne_eqb b.boot.mode 1 ne in
        rw m at (unmarked w (Fetch address) (rw m) refl refl (giving (get_or ram (read_index b.sizes b.paging address) 0)) (rw m))

    pub fetch_ends : b.boot.mode ≡ 1 → length boot ≤ b.boot.at → step_effect b ram boot (Fetch address) ≡ record { board = b; outcome = Err StreamEnded }
    unfolding own_refusal kind_refusal state_refusal stream_ended first_refusal named
    fetch_ends e l = refused_kind (Fetch address) 4 (rw (e, le-leb (length boot) b.boot.at l)) (λ (z : ◌≡◌ {A = ℕ} 4 0). omega arith)

    pub fetch_takes : b.boot.mode ≡ 1 → b.boot.at < length boot → Words b.dirty
        → step_effect b ram boot (Fetch address)
        ≡ record {
          board = record {
            sizes = b.sizes;
            rate = b.rate;
            paging = b.paging;
            video = b.video;
            clock = b.clock;
            boot = record { mode = b.boot.mode; at = b.boot.at + 1 };
            disc = b.disc;
            external = b.external;
            driven = b.driven;
            bleeper = b.bleeper;
            dirty = b.dirty;
          };
          outcome = Ok (giving (get_or boot b.boot.at 0));
        }
    unfolding own_refusal kind_refusal state_refusal stream_ended first_refusal step_outcome fetched_byte
    fetch_takes e l w =
        let m : eqb b.boot.mode 1 ≡ true = eq-eqb b.boot.mode 1 e in
        rw m at (unmarked w (Fetch address) (rw (m, lt-leb (length boot) b.boot.at l)) refl refl (giving (get_or boot b.boot.at 0)) (rw m))

  -- a keyboard word
  module _ (offset value : ℕ) where
    pub key_refused : 15 < offset → step_effect b ram boot (Key offset value) ≡ record { board = b; outcome = Err BadNumber }
    unfolding own_refusal kind_refusal state_refusal stream_ended first_refusal named
    key_refused l = refused_kind (Key offset value) 3 (rw (lt-leb offset 15 l)) (λ (z : ◌≡◌ {A = ℕ} 3 0). omega arith)

    pub key_keeps : 15 < offset → effect_ram b ram boot (Key offset value) ≡ ram
    unfolding own_refusal kind_refusal state_refusal stream_ended first_refusal
    key_keeps l = sym (own_kept b ram boot (Key offset value) 3 (rw (lt-leb offset 15 l)) (λ (z : ◌≡◌ {A = ℕ} 3 0). omega arith))

    pub key_does : offset ≤ 15
        → step_effect b ram boot (Key offset value) ≡ record { board = with_marks b ram b (set ram (keyboard_index offset) value); outcome = Ok silent }
    unfolding own_refusal kind_refusal state_refusal stream_ended first_refusal step_outcome board_after
    key_does l = sym (own_accepted b ram boot (Key offset value) (rw (le-leb offset 15 l)))

    pub key_stores : offset ≤ 15 → effect_ram b ram boot (Key offset value) ≡ set ram (keyboard_index offset) value
    unfolding own_refusal kind_refusal state_refusal stream_ended first_refusal
    key_stores l = sym (own_ram b ram boot (Key offset value) (rw (le-leb offset 15 l)))

  -- past block 7 a write marks no line
  pub past_marks : (address value : ℕ) → 7 < write_block b.sizes b.paging address → Words b.dirty → b.video.table < 256 → board_after b ram (Write address value) ≡ b
  unfolding board_after write_index
  past_marks address value h w t =
      let at : 131072 ≤ index_of (write_block b.sizes b.paging address) (place_of address) = omega (arith, h) in
      ap (λ (d : LineSet). with_dirty b d) (store_past b.dirty b.rate (view_of b ram) (write_index b.sizes b.paging address) value w t at)

  -- a byte that is there already: the RAM stays, and no line is marked
  pub equal_stores : (address value : ℕ) → get_or ram (write_index b.sizes b.paging address) 0 ≡ value → ram_after b.sizes b.paging ram (Write address value) ≡ ram
  equal_stores address value e =
      let at = write_index b.sizes b.paging address in
      ap (λ (x : ℕ). set ram at x) (sym e) ∙ set-get_or ram at 0

  pub equal_marks : (address value : ℕ) → get_or ram (write_index b.sizes b.paging address) 0 ≡ value → Words b.dirty → board_after b ram (Write address value) ≡ b
  unfolding board_after
  equal_marks address value e w =
      ap (λ (d : LineSet). with_dirty b d) (store_same b.dirty b.rate (view_of b ram) (write_index b.sizes b.paging address) value w (equal_stores address value e))

  -- a port in
  pub in_clears : Words b.dirty
      → step_effect b ram boot (PortIn 0xF4) ≡ record { board = with_clock b (record { counter = 0; beam = b.clock.beam }); outcome = Ok (giving (status_byte b)) }
  unfolding own_refusal kind_refusal state_refusal stream_ended first_refusal step_outcome port_in_outcome decoded_in forwarded_in forwarded_out
  in_clears w = unmarked w (PortIn 0xF4) refl refl refl _ refl

  pub in_reads : Words b.dirty → step_effect b ram boot (PortIn 0xF8) ≡ record { board = b; outcome = Ok (giving (status_byte b)) }
  unfolding own_refusal kind_refusal state_refusal stream_ended first_refusal step_outcome port_in_outcome decoded_in forwarded_in forwarded_out
  in_reads w = unmarked w (PortIn 0xF8) refl refl refl _ refl

  module _ (port : ℕ) (f4 : port ≡ 0xF4 → ⊥) (f8 : port ≡ 0xF8 → ⊥) where
    pub in_forwards : forwarded_in port ≡ true → Words b.dirty → step_effect b ram boot (PortIn port) ≡ record { board = b; outcome = Ok (forwarding true) }
    unfolding own_refusal kind_refusal state_refusal stream_ended first_refusal step_outcome port_in_outcome decoded_in
    in_forwards e w =
        let n4 : eqb port 0xF4 ≡ false = ne_eqb port 0xF4 f4 in
        rw n4 at (unmarked w (PortIn port) (rw e) refl refl (forwarding true) (rw (n4, ne_eqb port 0xF8 f8, e)))

    pub in_none : forwarded_in port ≡ false → step_effect b ram boot (PortIn port) ≡ record { board = b; outcome = Err NoPort }
    unfolding own_refusal kind_refusal state_refusal stream_ended first_refusal decoded_in named
    in_none e = refused_kind (PortIn port) 5 (rw (e, ne_eqb port 0xF4 f4, ne_eqb port 0xF8 f8)) (λ (z : ◌≡◌ {A = ℕ} 5 0). omega arith)

  -- a port out that is a register's or a command's
  module _ (port value : ℕ) where
    pub out_register : 0xF0 ≤ port → port ≤ 0xF8 → step_effect b ram boot (PortOut port value) ≡ record { board = with_marks b ram (written b port value) ram; outcome = Ok silent }
    unfolding own_refusal kind_refusal state_refusal stream_ended first_refusal step_outcome written board_after
    out_register lo hi =
        sym (own_accepted b ram boot (PortOut port value) (rw (register_decoded port lo hi)))
        ∙ rw (board_port port lo (omega arith))

    -- that changes nothing
    still : (o : Outcome) → Words b.dirty → decoded_out port ≡ true → b ≡ written b port value → forwarding (forwarded_out port) ≡ o
        → step_effect b ram boot (PortOut port value) ≡ record { board = b; outcome = Ok o }
    unfolding own_refusal kind_refusal state_refusal stream_ended first_refusal step_outcome written
    still o w t e f =
        unmarked w (PortOut port value) (rw t) refl (ap (λ (x : Board). x.video) (sym e)) o f
        ∙ ap (λ (c : Board). record { board = c; outcome = Ok o }) (sym e)

    pub out_idle : 0xFA ≤ port → port ≤ 0xFB → Words b.dirty → step_effect b ram boot (PortOut port value) ≡ record { board = b; outcome = Ok silent }
    out_idle lo hi w = still silent w (idle_decoded port lo hi) (written_past b port value (omega arith)) (ap forwarding (board_port port (omega arith) hi))

    pub out_forwards : forwarded_out port ≡ true → Words b.dirty → step_effect b ram boot (PortOut port value) ≡ record { board = b; outcome = Ok (forwarding true) }
    out_forwards h w = still (forwarding true) w (forwarded_decoded port h) (written_forwarded b port value h) (ap forwarding h)

    -- that is nobody's
    pub out_none : forwarded_out port ≡ false → (0xF0 ≤ port → port ≤ 0xF8 → ⊥) → (0xFA ≤ port → port ≤ 0xFB → ⊥) → step_effect b ram boot (PortOut port value) ≡ record { board = b; outcome = Err NoPort }
    unfolding own_refusal kind_refusal state_refusal stream_ended first_refusal named
    out_none e f g =
        let none : decoded_out port ≡ false = out_refused port e (outside 0xF0 0xF8 port f) (outside 0xFA 0xFB port g) in
        refused_kind (PortOut port value) 5 (rw none) (λ (z : ◌≡◌ {A = ℕ} 5 0). omega arith)
      where
        outside : (m n p : ℕ) → (m ≤ p → p ≤ n → ⊥) → (leb m p && leb p n) ≡ false
        outside m n p h = grind arith

  -- a kind that stores nothing leaves the RAM
  pub ram_kept_by : (s : Step) → ram_after b.sizes b.paging ram s ≡ ram → effect_ram b ram boot s ≡ ram
  ram_kept_by s e = sym (ram_kept b ram boot s e)
