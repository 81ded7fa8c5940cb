-- A refusal's number is 1 just where the record is not good.
use Rattle.std.proofs.Common.{◌≡◌, refl, eqb}
use denote.Enum.Bare.{sameb}
use Rattle.refusal.specs.contracts.Refusal.{the_type}
use Rattle.refusal.specs.declared.Refusal.{Refusal}
use Rattle.refusal.specs.declared.Refusal.TheVariants.{BadRecord, BadLength, BadNumber, StreamEnded, NoPort, BadSizes, BadArchive, BadFrame, NoRoom}
use Rattle.refusal.specs.Numbers.{number}
use Rattle.step_rules.specs.Answers.{refused_answer}
use Rattle.step.proofs.Answers.{answered_number}
use Rattle.step.proofs.lines.refused.Goals as goal

same : (r : Refusal) → sameb the_type r BadRecord ≡ eqb (number r) 1
unfolding number
same BadRecord = refl
same BadLength = refl
same BadNumber = refl
same StreamEnded = refl
same NoPort = refl
same BadSizes = refl
same BadArchive = refl
same BadFrame = refl
same NoRoom = refl

pub returns : goal.returns
unfolding refused_answer
returns c = rw (c.int_line.ensures, c.nmi_line.ensures, c.ne-known.ensures, same c.args.refusal, answered_number)
