-- Laws of kinds that mark no line, by the refusals of the kind itself.
-- Assumes nothing.
use Prim.Native.Nat.{ℕ, ◌≤◌}
use mathlib.Core.Path.{◌≡◌, refl, sym, ◌∙◌, ap}
use mathlib.Core.Bool.{Bool, true, false, cond}
use mathlib.Core.List.{List}
use borrow.Author.Tests.{ne_eqb}
use lib.Dec.{eqb}
use lib.ListN.{length}
use Rattle.std.specs.Prelude.{Ok, Err}
use Rattle.refusal.specs.Numbers.{named, answered}
use Rattle.lineset.proofs.Sets.{Words}
use Rattle.board.specs.declared.record.Board.{Board}
use Rattle.board.proofs.Good.{good_counter}
use Rattle.step_rules.specs.declared.Outcome.{Outcome}
use Rattle.step_rules.specs.declared.Step.{Step}
use Rattle.step_rules.specs.declared.Step.TheVariants.{PortOut}
use Rattle.step_rules.specs.Ports.{forwarded_out}
use Rattle.step_rules.specs.After.{video_after, ram_after, parts_after, board_after}
use Rattle.step_rules.specs.Answers.{lent_refusal, own_refusal, forwarding, step_outcome, accepts, refuses, step_effect}
use Rattle.step_rules.proofs.Answers.{lent_good, plain}
use Rattle.step.specs.Plain.{plain_effect}
use Rattle.step.proofs.Does.{out_forwards}

module _ (b : Board) (ram boot : List ℕ) (s : Step) where
  pub plain_accepts : (c : Board) (o : Outcome) → own_refusal b (length boot) s ≡ 0 → c ≡ parts_after b s → o ≡ step_outcome b ram boot s → accepts c o ≡ plain_effect b ram boot s
  unfolding plain_effect
  plain_accepts c o e f g = rw (e, f, g)

  pub plain_refuses : (n : ℕ) → own_refusal b (length boot) s ≡ n → (n ≡ 0 → ⊥) → refuses b n ≡ plain_effect b ram boot s
  unfolding plain_effect
  plain_refuses n e ne = rw (e, ne_eqb n 0 ne)

  -- a kind that keeps RAM and video registers marks nothing
  pub plain_effect_lem : ram_after b.sizes b.paging ram s ≡ ram → video_after b.video s ≡ b.video → Words b.dirty → plain_effect b ram boot s ≡ step_effect b ram boot s
  unfolding plain_effect step_effect answered
  plain_effect_lem r v w =
      ap (λ (c : Board). cond (eqb (own_refusal b (length boot) s) 0) (accepts c (step_outcome b ram boot s)) (refuses b (own_refusal b (length boot) s)))
      (sym (plain b ram boot s r v w))
      ∙ go (eqb (own_refusal b (length boot) s) 0)
    where
      go : (t : Bool) → cond t (accepts (board_after b ram s) (step_outcome b ram boot s)) (refuses b (own_refusal b (length boot) s))
          ≡ record {
            board = cond t (board_after b ram s) b;
            outcome = cond t (Ok (step_outcome b ram boot s)) (Err (named (own_refusal b (length boot) s)));
          }
      go true = refl
      go false = refl

-- a port out that is forwarded
pub out_forwarded : (b : Board) (ram boot : List ℕ) (port value : ℕ) → Words b.dirty → forwarded_out port ≡ true → step_effect b ram boot (PortOut port value) ≡ accepts b (forwarding true)
out_forwarded b ram boot port value w h = out_forwards b ram boot port value h w

-- what the kinds ask for
pub lent_counter : (b : Board) (ram boot : ℕ) → lent_refusal b ram boot ≡ 0 → b.clock.counter ≤ 15
lent_counter b ram boot e = good_counter b (lent_good b ram boot e)
