use Rattle.std.proofs.Common.{◌≡◌, true}
use Rattle.facts.specs.Tests.{every}
use Rattle.archive.proofs.Tests.{row_sound}
use Rattle.archive.proofs.layout.Layout.is_sound.Given as goal

abbrev pub invariant-loop-k : goal.invariant-loop-k
invariant-loop-k l = every (row_sound l.self.bytes.now) 0 l.k ≡ true
