-- Laws of refusals, effects and answers.
-- Assumes nothing.
use Prim.Native.Nat.{ℕ, ◌≤◌}
use native.Mathlib.Omega.{arith}
use mathlib.Core.Path.{◌≡◌, refl, sym, ◌∙◌, ap}
use mathlib.Core.Bool.{Bool, true, false, cond, ◌&&◌}
use mathlib.Core.List.{List}
use borrow.Author.Tests.{ne_eqb, leb-true}
use lib.Dec.{eqb, leb}
use lib.ListN.{length}
use Rattle.std.specs.Prelude.{Ok, Err}
use Rattle.facts.proofs.Bools.{both, cond_kept}
use Rattle.lineset.specs.declared.LineSet.{LineSet}
use Rattle.lineset.proofs.Sets.{Words}
use Rattle.paging.specs.Maps.{ram_fits}
use Rattle.scanline.specs.Drawing.{View}
use Rattle.board.specs.declared.record.Board.{Board}
use Rattle.board.specs.Record.{good, record_refusal, view_of, with_dirty}
use Rattle.board.specs.Dirty.{dirty_after}
use Rattle.board.proofs.Dirty.{dirty_same}
use Rattle.board.proofs.Good.{good_nmi}
use Rattle.board.proofs.Refusals.{first_two, first_none, first_second, first_first, not_refused, record_good}
use Rattle.refusal.specs.Numbers.{named, answered}
use Rattle.step_rules.specs.declared.Step.{Step}
use Rattle.step_rules.specs.Ports.{decoded_in, decoded_out}
use Rattle.step_rules.specs.After.{video_after, ram_after, parts_after, board_after}
use Rattle.step_rules.specs.Answers.{boot_fits, length_refusal, kind_refusal, stream_ended, state_refusal, lent_refusal, own_refusal, step_refusal, step_outcome, nmi_line, nmi_shown, accepted_answer, refused_answer, step_answer, step_ram, told, accepts, refuses, step_effect, effect_ram, answer_of}
use Rattle.step_rules.proofs.ByKind.{on_key_lem, on_in_lem, on_out_lem}

-- what record and buffers that are found good tell
module _ (b : Board) (n m : ℕ) (e : lent_refusal b n m ≡ 0) where
  parts : (record_refusal b ≡ 0) × (length_refusal b.sizes n m ≡ 0)
  unfolding lent_refusal
  parts = first_none (record_refusal b) (length_refusal b.sizes n m) e

  pub lent_good : good b ≡ true
  lent_good = record_good b parts.0

  lengths : (ram_fits b.sizes n ≡ true) × (boot_fits m ≡ true)
  unfolding length_refusal
  lengths = both (ram_fits b.sizes n) (boot_fits m) (not_refused (ram_fits b.sizes n && boot_fits m) 2 (λ (z : ◌≡◌ {A = ℕ} 2 0). omega arith) parts.1)

  pub lent_boot : m ≤ 1024
  unfolding boot_fits
  lent_boot = leb-true m 1024 lengths.1

-- a kind never refuses with 1
own_known : (b : Board) (n : ℕ) (s : Step) → eqb (own_refusal b n s) 1 ≡ false
unfolding own_refusal state_refusal kind_refusal
own_known b n s =
    let P : ℕ → Type 0 = λ m. eqb m 1 ≡ false in
    let own : P (kind_refusal s) =
    on_key_lem P s (λ offset value. cond_kept P (leb offset 15) refl refl)
    (on_in_lem P s (λ port. cond_kept P (decoded_in port) refl refl) (on_out_lem P s (λ port value. cond_kept P (decoded_out port) refl refl) refl)) in
    rw (first_two (kind_refusal s) (cond (stream_ended b n s) 4 0)) (cond_kept P (eqb (kind_refusal s) 0) (cond_kept P (stream_ended b n s) refl refl) own)

-- where no NMI stands, the lines that are shown and the record are those of a refusal
answer_refused : (b : Board) (n : ℕ) → (eqb b.disc.route 1 && eqb b.disc.line 1) ≡ false → eqb n 1 ≡ false → eqb n 0 ≡ false
    → answer_of (refuses b n) ≡ told (refused_answer b n)
unfolding answer_of refused_answer nmi_shown nmi_line answered
answer_refused b n e f g = rw (e, f, g)

module _ (b : Board) (ram boot : List ℕ) (s : Step) where
  -- the refusals of the kind itself
  pub own_accepted : own_refusal b (length boot) s ≡ 0 → accepts (board_after b ram s) (step_outcome b ram boot s) ≡ step_effect b ram boot s
  unfolding step_effect answered
  own_accepted e = rw e

  pub own_ram : own_refusal b (length boot) s ≡ 0 → ram_after b.sizes b.paging ram s ≡ effect_ram b ram boot s
  unfolding effect_ram
  own_ram e = rw e

  pub own_refused : (n : ℕ) → own_refusal b (length boot) s ≡ n → (n ≡ 0 → ⊥) → refuses b n ≡ step_effect b ram boot s
  unfolding step_effect answered
  own_refused n e ne = rw (e, ne_eqb n 0 ne)

  pub own_kept : (n : ℕ) → own_refusal b (length boot) s ≡ n → (n ≡ 0 → ⊥) → ram ≡ effect_ram b ram boot s
  unfolding effect_ram
  own_kept n e ne = rw (e, ne_eqb n 0 ne)

  -- a kind that stores nothing leaves the RAM, refused or not
  pub ram_kept : ram_after b.sizes b.paging ram s ≡ ram → ram ≡ effect_ram b ram boot s
  unfolding effect_ram
  ram_kept e = go (eqb (own_refusal b (length boot) s) 0)
    where
      go : (t : Bool) → ram ≡ cond t (ram_after b.sizes b.paging ram s) ram
      go true = sym e
      go false = refl

  -- those of record and buffers come first
  pub own_first : lent_refusal b (length ram) (length boot) ≡ 0 → step_refusal b ram boot s ≡ own_refusal b (length boot) s
  unfolding step_refusal
  own_first e = first_second _ (own_refusal b (length boot) s) e

  pub step_own : lent_refusal b (length ram) (length boot) ≡ 0 → answer_of (step_effect b ram boot s) ≡ told (step_answer b ram boot s)
  unfolding step_effect step_answer accepted_answer answer_of answered
  step_own e =
      let n = own_refusal b (length boot) s in
      rw (own_first e)
      (go (eqb n 0) (λ g. answer_refused b n (good_nmi b (lent_good b (length ram) (length boot) e)) (own_known b (length boot) s) g) refl)
    where
      go : (t : Bool)
          → (eqb (own_refusal b (length boot) s) 0 ≡ false
          → answer_of (refuses b (own_refusal b (length boot) s)) ≡ told (refused_answer b (own_refusal b (length boot) s)))
          → eqb (own_refusal b (length boot) s) 0 ≡ t
          → answer_of (record { board = cond t (board_after b ram s) b; outcome = cond t (Ok (step_outcome b ram boot s)) (Err (named (own_refusal b (length boot) s))) })
          ≡ told (cond t (accepted_answer (board_after b ram s) (step_outcome b ram boot s)) (refused_answer b (own_refusal b (length boot) s)))
      go true r f = refl
      go false r f = r f

  pub step_own_ram : lent_refusal b (length ram) (length boot) ≡ 0 → effect_ram b ram boot s ≡ step_ram b ram boot s
  unfolding effect_ram step_ram
  step_own_ram e = rw (own_first e)

  pub step_lent : (lent_refusal b (length ram) (length boot) ≡ 0 → ⊥) → step_refusal b ram boot s ≡ lent_refusal b (length ram) (length boot)
  unfolding step_refusal
  step_lent ne = first_first _ (own_refusal b (length boot) s) _ refl ne

  pub step_refused : (n : ℕ) → lent_refusal b (length ram) (length boot) ≡ n → (n ≡ 0 → ⊥) → refused_answer b n ≡ step_answer b ram boot s
  unfolding step_answer step_refusal
  step_refused n e ne = rw (first_first _ (own_refusal b (length boot) s) n e ne, ne_eqb n 0 ne)

  -- a refusal of the kind is known only of a good record
  pub own_other : lent_refusal b (length ram) (length boot) ≡ 0 → eqb (step_refusal b ram boot s) 1 ≡ false
  own_other e = rw (own_first e) (own_known b (length boot) s)

  pub step_kept : (n : ℕ) → lent_refusal b (length ram) (length boot) ≡ n → (n ≡ 0 → ⊥) → ram ≡ step_ram b ram boot s
  unfolding step_ram step_refusal
  step_kept n e ne = rw (first_first _ (own_refusal b (length boot) s) n e ne, ne_eqb n 0 ne)

  -- a step that keeps RAM and video registers marks nothing
  pub plain : ram_after b.sizes b.paging ram s ≡ ram → video_after b.video s ≡ b.video → Words b.dirty → board_after b ram s ≡ parts_after b s
  unfolding board_after
  plain e v w =
      ap (λ (d : LineSet). with_dirty (parts_after b s) d)
      (ap (λ (x : View). dirty_after b.dirty b.rate (view_of b ram) x) (λ i. record { video = v i; ram = e i }) ∙ dirty_same b.dirty w b.rate (view_of b ram))

-- neither record and buffers nor the kind itself refuse an accepted step
module _ (b : Board) (ram boot : List ℕ) (s : Step) (e : step_refusal b ram boot s ≡ 0) where
  pub lent_none : lent_refusal b (length ram) (length boot) ≡ 0
  unfolding step_refusal
  lent_none = (first_none (lent_refusal b (length ram) (length boot)) (own_refusal b (length boot) s) e).0

  pub state_none : state_refusal b (length boot) s ≡ 0
  unfolding step_refusal own_refusal
  state_none =
      (first_none (kind_refusal s) (state_refusal b (length boot) s)
      (first_none (lent_refusal b (length ram) (length boot)) (own_refusal b (length boot) s) e).1).1
