-- A call that is lent other memory of a wrong length is refused with 2, and changes nothing.
-- Assumes nothing.
use Prim.Native.Nat.{ℕ}
use native.Mathlib.Omega.{arith}
use mathlib.Core.Path.{◌≡◌, ◌∙◌}
use mathlib.Core.Bool.{Bool, true}
use mathlib.Core.List.{List}
use lib.ListN.{length}
use Rattle.board.specs.Record.{good, record_refusal}
use Rattle.board.proofs.Refusals.{first_first, first_second, good_record}
use Rattle.step_rules.specs.declared.Step.{Step}
use Rattle.step_rules.specs.Answers.{length_refusal, lent_refusal, own_refusal, step_refusal, step_answer}
use Rattle.step_rules.proofs.After.{refused_board, refused_ram, answer_refusal}
use Rattle.picture.specs.Pictures.{picture_length_refusal, picture_refusal, refresh_answer, refresh_picture}
use Rattle.runs.specs.Reference.{Reference}
use Rattle.runs.specs.Events.{step_on_other, refresh_on_other, Machine, Lent, Returns}

module _ (m : Machine) (s : Step) (ram boot : List ℕ) (g : good m.board ≡ true) (w : Lent m.board.sizes (step_on_other s ram boot)) where
  two : step_refusal m.board ram boot s ≡ 2
  unfolding step_refusal lent_refusal length_refusal
  two =
      first_first _ (own_refusal m.board (length boot) s) 2
      (first_second (record_refusal m.board) _ (good_record m.board g) ∙ rw w)
      (λ (z : ◌≡◌ {A = ℕ} 2 0). omega arith)

  refused : step_refusal m.board ram boot s ≡ 0 → ⊥
  refused e = let t = two in omega arith

  pub step_other : (step_answer m.board ram boot s).board ≡ m.board
  step_other = refused_board m.board ram boot s refused

  pub step_other_returns : (alone : Bool) (r : Reference) → Returns alone m r (step_on_other s ram boot)
  step_other_returns alone r = (answer_refusal m.board ram boot s ∙ two, refused_ram m.board ram boot s refused)

module _ (m : Machine) (ram picture : List ℕ) (g : good m.board ≡ true) (w : Lent m.board.sizes (refresh_on_other ram picture)) where
  two_pictures : picture_refusal m.board (length ram) (length picture) ≡ 2
  unfolding picture_refusal picture_length_refusal
  two_pictures = first_second (record_refusal m.board) _ (good_record m.board g) ∙ rw w

  pub refresh_other : (refresh_answer m.board ram picture).board ≡ m.board
  unfolding refresh_answer
  refresh_other = rw two_pictures

  pub refresh_other_returns : (alone : Bool) (r : Reference) → Returns alone m r (refresh_on_other ram picture)
  unfolding refresh_answer refresh_picture
  refresh_other_returns alone r = (rw two_pictures, (rw two_pictures, rw two_pictures))
