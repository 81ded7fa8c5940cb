-- What a kind does that neither stores nor writes a register of the video: it marks no line. A law makes it `step_effect`.
use Rattle.std.specs.Prelude.{ℕ, cond, List, eqb, length}
use Rattle.board.specs.declared.record.Board.{Board}
use Rattle.step_rules.specs.declared.Effect.{Effect}
use Rattle.step_rules.specs.declared.Step.{Step}
use Rattle.step_rules.specs.After.{parts_after}
use Rattle.step_rules.specs.Answers.{own_refusal, step_outcome, accepts, refuses}

unfoldable pub plain_effect : Board → List ℕ → List ℕ → Step → Effect
plain_effect b ram boot s =
    cond (eqb (own_refusal b (length boot) s) 0) (accepts (parts_after b s) (step_outcome b ram boot s)) (refuses b (own_refusal b (length boot) s))
