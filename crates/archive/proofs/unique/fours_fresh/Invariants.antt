use Rattle.std.proofs.Common.{◌≡◌, ◌*◌, true}
use Rattle.facts.specs.Tests.{every}
use Rattle.archive.specs.Sound.{fresh}
use Rattle.archive.specs.Rows.{named}
use Rattle.archive.proofs.unique.fours_fresh.Given as goal

abbrev pub invariant-loop-i : goal.invariant-loop-i
invariant-loop-i l = every (fresh (named l.rows)) l.from (4 * l.i) ≡ true
