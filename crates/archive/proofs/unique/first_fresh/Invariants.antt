use Rattle.std.proofs.Common.{◌≡◌, true}
use Rattle.facts.specs.Tests.{every}
use Rattle.archive.specs.Sound.{fresh}
use Rattle.archive.specs.Rows.{named}
use Rattle.archive.proofs.unique.first_fresh.Given as goal

abbrev pub invariant-loop-k : goal.invariant-loop-k
invariant-loop-k l = every (fresh (named l.rows)) 0 l.k ≡ true
