-- `empty`: the four words are computed.
use Rattle.std.proofs.Common.{refl, false}
use Rattle.lineset.specs.Lines.{packed}
use Rattle.lineset.proofs.Operations.{four_words}
use Rattle.lineset.proofs.LineSet.empty.Goals as goal

pub returns : goal.returns
unfolding packed
returns c = four_words (λ L. false) 0 0 0 0 refl refl refl refl
