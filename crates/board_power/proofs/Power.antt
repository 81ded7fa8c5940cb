-- An accepted power-on gives a good record; a reset is a power-on but for what it keeps.
-- Assumes nothing.
use Prim.Native.Nat.{ℕ, ◌<◌, ◌%◌}
use native.Mathlib.Omega.{arith}
use mathlib.Core.Path.{◌≡◌, refl, sym, ◌∙◌}
use mathlib.Core.Bool.{Bool, true, false, cond, ◌&&◌}
use lib.Dec.{eqb}
use Rattle.facts.proofs.Bools.{both}
use Rattle.lineset.specs.Lines.{shown_set}
use Rattle.lineset.proofs.Sets.{Words, words_set}
use Rattle.lineset.proofs.Shown.{inside_made, shown_member}
use Rattle.paging.specs.declared.Sizes.{Sizes}
use Rattle.paging.specs.declared.Paging.{Paging}
use Rattle.paging.specs.Maps.{allowed}
use Rattle.board.specs.declared.record.Board.{Board}
use Rattle.board.specs.Clock.{frame}
use Rattle.board.specs.Record.{good, good_rate, good_boot, good_disc, good_flags}
use Rattle.board.specs.Registers.{written, paging_out, video_out, control_commanded, clock_commanded, boot_commanded, disc_commanded, driven_commanded, bleeper_commanded}
use Rattle.board.proofs.Good.{parts_good, clock_good}
use Rattle.board_power.specs.Power.{fresh_board, power_on_refusal, powered_on, reset_board}

module _ (sizes : Sizes) (rate : ℕ) (paging : Paging) (table top : ℕ) (e : power_on_refusal sizes rate ≡ 0) where
  accepted : (allowed sizes && good_rate rate) ≡ true
  unfolding power_on_refusal
  accepted = go (allowed sizes && good_rate rate) e
    where
      go : (t : Bool) → ◌≡◌ {A = ℕ} (cond t 0 6) 0 → t ≡ true
      go true f = refl
      go false f = absurd (omega arith)

  pub power_on_board : (powered_on sizes rate paging table top).board ≡ fresh_board sizes rate paging table top
  unfolding powered_on
  power_on_board = rw e

  frame_pos : 0 < frame rate
  unfolding frame
  frame_pos = go (eqb rate 50)
    where
      go : (t : Bool) → 0 < cond t 312 260
      go true = omega arith
      go false = omega arith

  pub power_on_good : good (fresh_board sizes rate paging table top) ≡ true
  unfolding fresh_board good_boot good_disc good_flags
  power_on_good =
      parts_good (fresh_board sizes rate paging table top)
      (record {
        sizes = (both (allowed sizes) (good_rate rate) accepted).0;
        rate = (both (allowed sizes) (good_rate rate) accepted).1;
        clock = clock_good rate (record { counter = 0; beam = 0 }) (omega arith) frame_pos;
        boot = refl;
        disc = refl;
        flags = refl;
        dirty = inside_made (shown_set rate) rate (λ L l m. sym (shown_member rate L) ∙ m);
      })

pub power_on_words : (sizes : Sizes) (rate : ℕ) (paging : Paging) (table top : ℕ) → Words (fresh_board sizes rate paging table top).dirty
unfolding fresh_board shown_set
power_on_words sizes rate paging table top = words_set _

-- "Reset (command 1) sets the same", but for what it keeps
pub reset_as_power_on : (b : Board) (value : ℕ) → value % 16 ≡ 1 → written b 0xF8 value ≡ reset_board b
unfolding written paging_out video_out control_commanded clock_commanded boot_commanded disc_commanded driven_commanded bleeper_commanded fresh_board
reset_as_power_on b value e = rw e
