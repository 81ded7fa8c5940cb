-- Laws about refusals and their numbers.
use Rattle.std.proofs.Common.{◌≡◌, refl}
use Rattle.refusal.specs.declared.Refusal.{Refusal}
use Rattle.refusal.specs.declared.Refusal.TheVariants.{BadRecord, BadLength, BadNumber, StreamEnded, NoPort, BadSizes, BadArchive, BadFrame, NoRoom}
use Rattle.refusal.specs.Numbers.{number, named}

-- each refusal has a number of its own
pub named_number : (r : Refusal) → named (number r) ≡ r
unfolding named number
named_number BadRecord = refl
named_number BadLength = refl
named_number BadNumber = refl
named_number StreamEnded = refl
named_number NoPort = refl
named_number BadSizes = refl
named_number BadArchive = refl
named_number BadFrame = refl
named_number NoRoom = refl
