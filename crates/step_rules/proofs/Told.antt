-- What the outcome of a step tells of its numbers: accepted or refused, in place of a refusal number.
-- Assumes nothing.
use Prim.Native.Nat.{ℕ}
use mathlib.Core.Path.{◌≡◌, refl, sym, ◌∙◌, ap}
use mathlib.Core.Bool.{Bool, true, false, cond, ◌&&◌}
use mathlib.Core.List.{List, [], ◌∷◌}
use borrow.Author.Tests.{eqb-true, eqb-false}
use lib.Dec.{eqb, leb}
use lib.ListN.{length}
use Rattle.std.specs.Prelude.{Option, Result, Ok, Err}
use Rattle.refusal.specs.declared.Refusal.{Refusal}
use Rattle.refusal.specs.Numbers.{number, named, answered}
use Rattle.facts.proofs.Bools.{cond_kept}
use Rattle.paging.specs.Maps.{ram_fits}
use Rattle.board.specs.declared.record.Board.{Board}
use Rattle.board.specs.Record.{good, record_refusal, first_refusal}
use Rattle.board.proofs.Refusals.{first_two}
use Rattle.step_rules.specs.declared.Outcome.{Outcome}
use Rattle.step_rules.specs.declared.Step.{Step}
use Rattle.step_rules.specs.Answers.{Reply, boot_fits, length_refusal, kind_refusal, stream_ended, state_refusal, lent_refusal, own_refusal, step_refusal, step_outcome, accepted_answer, refused_answer, step_answer, told_reply}
use Rattle.step_rules.specs.Ports.{decoded_in, decoded_out}
use Rattle.step_rules.specs.After.{board_after}
use Rattle.step_rules.specs.Decoding.{step_of, numbers_answer}
use Rattle.step_rules.proofs.ByKind.{on_key_lem, on_in_lem, on_out_lem}
use Rattle.step_rules.proofs.Decoding.{numbers_answer_lem}

-- an outcome of a reply without a refusal number is its byte and flag
pub told_ok : (r : Reply) (o : Outcome) → (told_reply r).outcome ≡ Ok o → (r.refusal ≡ 0) × ((r.byte ≡ o.byte) × (r.forwarded ≡ o.forwarded))
unfolding answered
told_ok r o e = go (eqb r.refusal 0) refl e
  where
    go : (t : Bool) → eqb r.refusal 0 ≡ t
        → ◌≡◌ {A = Result Outcome Refusal} (cond t (Ok (record { byte = r.byte; forwarded = r.forwarded })) (Err (named r.refusal))) (Ok o)
        → (r.refusal ≡ 0) × ((r.byte ≡ o.byte) × (r.forwarded ≡ o.forwarded))
    go true f h = let k : ◌≡◌ {A = Outcome} (record { byte = r.byte; forwarded = r.forwarded }) o = cc in (eqb-true r.refusal 0 f, (ap (λ (x : Outcome). x.byte) k, ap (λ (x : Outcome). x.forwarded) k))
    go false f h = absurd (cc)

-- each number that a step is refused with names its refusal
abbrev pub Known : ℕ → Type 0
Known n = (n ≡ 0 → ⊥) → number (named n) ≡ n

module _ (b : Board) (ram boot : List ℕ) (s : Step) where
  pub step_known : Known (step_refusal b ram boot s)
  unfolding number named step_refusal lent_refusal own_refusal record_refusal length_refusal state_refusal kind_refusal
  step_known =
      let none : Known 0 = λ ne. absurd (ne refl) in
      let one : Known 1 = λ ne. refl in
      let two : Known 2 = λ ne. refl in
      let three : Known 3 = λ ne. refl in
      let four : Known 4 = λ ne. refl in
      let five : Known 5 = λ ne. refl in
      let kind : Known (kind_refusal s) =
      on_key_lem Known s (λ offset value. cond_kept Known (leb offset 15) none three)
      (on_in_lem Known s (λ port. cond_kept Known (decoded_in port) none five) (on_out_lem Known s (λ port value. cond_kept Known (decoded_out port) none five) none)) in
      let lent : Known (lent_refusal b (length ram) (length boot)) =
      first (record_refusal b) (length_refusal b.sizes (length ram) (length boot)) (cond_kept Known (good b) none one)
      (cond_kept Known (ram_fits b.sizes (length ram) && boot_fits (length boot)) none two) in
      first (lent_refusal b (length ram) (length boot)) (own_refusal b (length boot) s) lent
      (first (kind_refusal s) (state_refusal b (length boot) s) kind (cond_kept Known (stream_ended b (length boot) s) four none))
    where
      first : (m n : ℕ) → Known m → Known n → Known (first_refusal (m ∷ n ∷ []))
      first m n p q = rw (first_two m n) (cond_kept Known (eqb m 0) q p)

  -- a refused step's number is its refusal's, and it has no byte and is not forwarded
  pub step_err : (e : Refusal) → (told_reply (step_answer b ram boot s).reply).outcome ≡ Err e
      → ((step_answer b ram boot s).reply.refusal ≡ number e) × (((step_answer b ram boot s).reply.byte ≡ 0) × ((step_answer b ram boot s).reply.forwarded ≡ false))
  unfolding step_answer accepted_answer refused_answer answered
  step_err e = go (eqb (step_refusal b ram boot s) 0) refl
    where
      go : (t : Bool) → eqb (step_refusal b ram boot s) 0 ≡ t
          → (let r : Reply = (cond t (accepted_answer (board_after b ram s) (step_outcome b ram boot s)) (refused_answer b (step_refusal b ram boot s))).reply in
          (told_reply r).outcome ≡ Err e → (r.refusal ≡ number e) × ((r.byte ≡ 0) × (r.forwarded ≡ false)))
      go true f h = absurd (cc)
      go false f h =
          let ne = eqb-false (step_refusal b ram boot s) 0 f in
          let err : ◌≡◌ {A = Result Outcome Refusal} (Err (named (step_refusal b ram boot s))) (Err e) = rw f at h in
          let k : named (step_refusal b ram boot s) ≡ e = cc in
          (sym (step_known ne) ∙ ap number k, (refl, refl))

-- the same of a step by its numbers
pub numbers_err : (b : Board) (ram boot : List ℕ) (d : Option Step) (e : Refusal) → (told_reply (numbers_answer b ram boot d).reply).outcome ≡ Err e
    → ((numbers_answer b ram boot d).reply.refusal ≡ number e) × (((numbers_answer b ram boot d).reply.byte ≡ 0) × ((numbers_answer b ram boot d).reply.forwarded ≡ false))
numbers_err b ram boot d e = rw (sym (numbers_answer_lem b ram boot d)) (step_err b ram boot (step_of d) e)
