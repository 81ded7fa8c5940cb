-- Refused or accepted: the answer, and the RAM that is left.
use Rattle.std.proofs.Common.{ℕ, ◌≡◌, refl, sym, ◌∙◌, List, length}
use borrow.Author.Tests.{ne_eqb}
use Rattle.std.specs.Prelude.{Option, Err}
use Rattle.refusal.specs.declared.Refusal.{Refusal}
use Rattle.refusal.specs.declared.Refusal.TheVariants.{BadRecord, BadLength, BadNumber, StreamEnded, NoPort, BadSizes, BadArchive, BadFrame, NoRoom}
use Rattle.refusal.specs.Numbers.{number, named, answered}
use Rattle.board.specs.declared.record.Board.{Board}
use Rattle.step_rules.specs.declared.Step.{Step}
use Rattle.step_rules.specs.Answers.{lent_refusal, refused_answer, step_answer, step_ram, told, step_effect, effect_ram, answer_of}
use Rattle.step_rules.specs.Decoding.{step_of, numbers_answer, numbers_ram}
use Rattle.step_rules.proofs.After.{refused_ram}
use Rattle.step_rules.proofs.Answers.{step_own, step_own_ram, step_lent}
use Rattle.step_rules.proofs.Decoding.{numbers_answer_lem, numbers_ram_lem}

-- an answer that is refused by a refusal's number is that refusal
pub answered_number : {A : Type 0} (r : Refusal) (x : A) → answered (number r) x ≡ Err r
unfolding answered number named
answered_number BadRecord x = refl
answered_number BadLength x = refl
answered_number BadNumber x = refl
answered_number StreamEnded x = refl
answered_number NoPort x = refl
answered_number BadSizes x = refl
answered_number BadArchive x = refl
answered_number BadFrame x = refl
answered_number NoRoom x = refl

module _ (b : Board) (ram boot : List ℕ) (s : Step) where
  -- record or buffers are refused
  pub lent_refused : (lent_refusal b (length ram) (length boot) ≡ 0 → ⊥) → step_answer b ram boot s ≡ refused_answer b (lent_refusal b (length ram) (length boot))
  unfolding step_answer
  lent_refused ne = rw (step_lent b ram boot s ne, ne_eqb (lent_refusal b (length ram) (length boot)) 0 ne)

  pub lent_kept : (lent_refusal b (length ram) (length boot) ≡ 0 → ⊥) → step_ram b ram boot s ≡ ram
  lent_kept ne = refused_ram b ram boot s (λ z. ne (sym (step_lent b ram boot s ne) ∙ z))

  -- they are found good
  pub lent_answer : lent_refusal b (length ram) (length boot) ≡ 0 → told (step_answer b ram boot s) ≡ answer_of (step_effect b ram boot s)
  lent_answer e = sym (step_own b ram boot s e)

  pub lent_ram : lent_refusal b (length ram) (length boot) ≡ 0 → step_ram b ram boot s ≡ effect_ram b ram boot s
  lent_ram e = sym (step_own_ram b ram boot s e)

-- the same of a step by its numbers
pub numbers_step : (b : Board) (ram boot : List ℕ) (d : Option Step) → numbers_answer b ram boot d ≡ step_answer b ram boot (step_of d)
numbers_step b ram boot d = sym (numbers_answer_lem b ram boot d)

pub numbers_left : (b : Board) (ram boot : List ℕ) (d : Option Step) → numbers_ram b ram boot d ≡ step_ram b ram boot (step_of d)
numbers_left b ram boot d = sym (numbers_ram_lem b ram boot d)
