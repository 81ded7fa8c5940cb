use Rattle.std.proofs.Common.{◌≡◌, nat_eq}
use Rattle.facts.specs.Tests.{every}
use Rattle.archive.specs.Sound.{is_zero}
use Rattle.archive.proofs.layout.all_zero.Given as goal

abbrev pub invariant-loop-byte : goal.invariant-loop-byte
invariant-loop-byte l = every (is_zero l.bytes 0) 0 l.byte-index ≡ nat_eq l.seen 0
