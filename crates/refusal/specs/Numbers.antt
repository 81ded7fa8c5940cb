-- Refusals and their numbers: documents 01 and 02, "Refusal numbers".
use Rattle.std.specs.Prelude.{ℕ, cond, eqb, Result, Ok, Err}
use Rattle.refusal.specs.declared.Refusal.{Refusal}
use Rattle.refusal.specs.declared.Refusal.TheVariants.{BadRecord, BadLength, BadNumber, StreamEnded, NoPort, BadSizes, BadArchive, BadFrame, NoRoom}

unfoldable pub number : Refusal → ℕ
number BadRecord = 1
number BadLength = 2
number BadNumber = 3
number StreamEnded = 4
number NoPort = 5
number BadSizes = 6
number BadArchive = 10
number BadFrame = 11
number NoRoom = 12

-- the refusal that has a number
unfoldable pub named : ℕ → Refusal
named n =
    cond (eqb n 1) BadRecord
    (cond (eqb n 2) BadLength
    (cond (eqb n 3) BadNumber
    (cond (eqb n 4) StreamEnded
    (cond (eqb n 5) NoPort
    (cond (eqb n 6) BadSizes
    (cond (eqb n 10) BadArchive
    (cond (eqb n 11) BadFrame NoRoom)))))))

-- what a call that may be refused returns: x where its refusal number is 0, else the refusal of that number
unfoldable pub answered : {A : Type 0} → ℕ → A → Result A Refusal
answered n x = cond (eqb n 0) (Ok x) (Err (named n))
