use Rattle.std.proofs.Common.{refl}
use Rattle.facts.specs.Tests.{every}
use Rattle.archive.proofs.Seen.{zero_turn}
use Rattle.archive.proofs.layout.all_zero.Goals as goal

pub loop-byte-init : goal.loop-byte-init
unfolding every
loop-byte-init c = refl

pub loop-byte-preserved : goal.loop-byte-preserved
loop-byte-preserved c = zero_turn _ _ c.loop-byte.seen c.loop-byte.invariant
