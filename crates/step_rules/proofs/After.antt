-- What holds after every step: of an accepted one, and of a refused one, which changes nothing.
-- Assumes nothing.
use Prim.Native.Nat.{ℕ}
use mathlib.Core.Path.{◌≡◌, refl, sym, subst⁻¹}
use mathlib.Core.Bool.{Bool, true, false, cond}
use mathlib.Core.List.{List}
use borrow.Author.Tests.{eqb-true, eqb-false, ne_eqb}
use lib.Dec.{eqb}
use Rattle.paging.specs.declared.Sizes.{Sizes}
use Rattle.paging.specs.declared.Paging.{Paging}
use Rattle.scanline.specs.declared.Video.{Video}
use Rattle.board.specs.declared.record.Board.{Board}
use Rattle.step_rules.specs.declared.Step.{Step}
use Rattle.step_rules.specs.declared.Step.TheVariants.{Fetch, Read, Write, PortIn, PortOut, Scan, Key, DiscLine, ExternalLine}
use Rattle.step_rules.specs.After.{paging_after, video_after, ram_after, board_after}
use Rattle.step_rules.specs.Answers.{stream_ended, state_refusal, step_refusal, step_outcome, nmi_shown, accepted_answer, refused_answer, step_answer, step_ram}

-- a refusal that only the record knows meets no step that changes the memory's parts
pub state_still : (b : Board) (n : ℕ) (s : Step) → (state_refusal b n s ≡ 0 → ⊥) → (sizes : Sizes) (p : Paging) (v : Video) (ram : List ℕ)
    → (paging_after p s ≡ p) × ((video_after v s ≡ v) × (ram_after sizes p ram s ≡ ram))
unfolding state_refusal stream_ended
state_still b n (Fetch address) ne sizes p v ram = (refl, (refl, refl))
state_still b n (Read address) ne sizes p v ram = absurd (ne refl)
state_still b n (Write address value) ne sizes p v ram = absurd (ne refl)
state_still b n (PortIn port) ne sizes p v ram = absurd (ne refl)
state_still b n (PortOut port value) ne sizes p v ram = absurd (ne refl)
state_still b n Scan ne sizes p v ram = absurd (ne refl)
state_still b n (Key offset value) ne sizes p v ram = absurd (ne refl)
state_still b n (DiscLine on) ne sizes p v ram = absurd (ne refl)
state_still b n (ExternalLine on) ne sizes p v ram = absurd (ne refl)

module _ (b : Board) (ram boot : List ℕ) (s : Step) where
  pub accepted_board : step_refusal b ram boot s ≡ 0 → (step_answer b ram boot s).board ≡ nmi_shown (board_after b ram s)
  unfolding step_answer accepted_answer
  accepted_board e = rw e

  pub accepted_byte : step_refusal b ram boot s ≡ 0 → (step_answer b ram boot s).reply.byte ≡ (step_outcome b ram boot s).byte
  unfolding step_answer accepted_answer
  accepted_byte e = rw e

  pub accepted_ram : step_refusal b ram boot s ≡ 0 → step_ram b ram boot s ≡ ram_after b.sizes b.paging ram s
  unfolding step_ram
  accepted_ram e = rw e

  pub refused_board : (step_refusal b ram boot s ≡ 0 → ⊥) → (step_answer b ram boot s).board ≡ b
  unfolding step_answer refused_answer
  refused_board ne = rw (ne_eqb (step_refusal b ram boot s) 0 ne)

  pub refused_ram : (step_refusal b ram boot s ≡ 0 → ⊥) → step_ram b ram boot s ≡ ram
  unfolding step_ram
  refused_ram ne = rw (ne_eqb (step_refusal b ram boot s) 0 ne)

  pub answer_refusal : (step_answer b ram boot s).reply.refusal ≡ step_refusal b ram boot s
  unfolding step_answer accepted_answer refused_answer
  answer_refusal = go (eqb (step_refusal b ram boot s) 0) refl
    where
      go : (t : Bool) → eqb (step_refusal b ram boot s) 0 ≡ t
          → (cond t (accepted_answer (board_after b ram s) (step_outcome b ram boot s)) (refused_answer b (step_refusal b ram boot s))).reply.refusal ≡ step_refusal b ram boot s
      go true e = sym (eqb-true (step_refusal b ram boot s) 0 e)
      go false e = refl

  -- what holds after an accepted step and of what a refused one leaves holds after any step
  pub after_step : (P : Board → List ℕ → Type 0)
      → (step_refusal b ram boot s ≡ 0 → P (nmi_shown (board_after b ram s)) (ram_after b.sizes b.paging ram s))
      → ((step_refusal b ram boot s ≡ 0 → ⊥) → P b ram)
      → P (step_answer b ram boot s).board (step_ram b ram boot s)
  after_step P accepted refused = go (eqb (step_refusal b ram boot s) 0) refl
    where
      go : (t : Bool) → eqb (step_refusal b ram boot s) 0 ≡ t → P (step_answer b ram boot s).board (step_ram b ram boot s)
      go true f =
          let e = eqb-true (step_refusal b ram boot s) 0 f in
          subst⁻¹ (λ (c : Board). P c (step_ram b ram boot s)) (accepted_board e)
          (subst⁻¹ (λ (r : List ℕ). P (nmi_shown (board_after b ram s)) r) (accepted_ram e) (accepted e))
      go false f =
          let ne = eqb-false (step_refusal b ram boot s) 0 f in
          subst⁻¹ (λ (c : Board). P c (step_ram b ram boot s)) (refused_board ne)
          (subst⁻¹ (λ (r : List ℕ). P b r) (refused_ram ne) (refused ne))
