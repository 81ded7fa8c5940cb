-- A step from plain numbers.
use Rattle.std.specs.Prelude.{ℕ, Bool, cond, ◌&&◌, ◌||◌, List, [], ◌∷◌, eqb, leb, length, Option, Some, None}
use Rattle.board.specs.declared.record.Board.{Board}
use Rattle.board.specs.Record.{first_refusal}
use Rattle.step_rules.specs.declared.Step.{Step}
use Rattle.step_rules.specs.declared.Step.TheVariants.{Fetch, Read, Write, PortIn, PortOut, Scan, Key, DiscLine, ExternalLine}
use Rattle.step_rules.specs.Answers.{Answer, lent_refusal, refused_answer, step_answer, step_ram}

-- the largest number and value of a kind, 1 to 9 in document 01's order: "Addresses are 0 to 65,535; channels, offsets and values are
-- bytes." A line's value is 0 or 1; where a kind takes no number or no value, that is 0.
unfoldable pub largest_number : ℕ → ℕ
largest_number kind = cond (eqb kind 1 || (eqb kind 2 || eqb kind 3)) 65535 (cond (eqb kind 4 || (eqb kind 5 || eqb kind 7)) 255 0)

unfoldable pub largest_value : ℕ → ℕ
largest_value kind = cond (eqb kind 3 || (eqb kind 5 || eqb kind 7)) 255 (cond (eqb kind 8 || eqb kind 9) 1 0)

unfoldable pub in_range : ℕ → ℕ → ℕ → Bool
in_range kind number value = (leb 1 kind && leb kind 9) && (leb number (largest_number kind) && leb value (largest_value kind))

unfoldable pub step_named : ℕ → ℕ → ℕ → Step
step_named kind number value =
    cond (eqb kind 1) (Fetch number)
    (cond (eqb kind 2) (Read number)
    (cond (eqb kind 3) (Write number value)
    (cond (eqb kind 4) (PortIn number)
    (cond (eqb kind 5) (PortOut number value)
    (cond (eqb kind 6) Scan
    (cond (eqb kind 7) (Key number value) (cond (eqb kind 8) (DiscLine (eqb value 1)) (ExternalLine (eqb value 1)))))))))

-- what a kind, a number and a value name: a step, or none
unfoldable pub decoded : ℕ → ℕ → ℕ → Option Step
decoded kind number value = cond (in_range kind number value) (Some (step_named kind number value)) None

-- the step; in place of none a keyboard word that is refused just as what names no step is (`numbers_answer_lem`)
unfoldable pub step_of : Option Step → Step
step_of (Some s) = s
step_of None = Key 16 0

-- what a step by its numbers answers, and the RAM that it leaves; what names no step is refused with 3, after 1 and 2
unfoldable pub numbers_answer : Board → List ℕ → List ℕ → Option Step → Answer
numbers_answer b ram boot (Some s) = step_answer b ram boot s
numbers_answer b ram boot None = refused_answer b (first_refusal (lent_refusal b (length ram) (length boot) ∷ 3 ∷ []))

unfoldable pub numbers_ram : Board → List ℕ → List ℕ → Option Step → List ℕ
numbers_ram b ram boot (Some s) = step_ram b ram boot s
numbers_ram b ram boot None = ram
