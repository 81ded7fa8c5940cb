use Rattle.std.proofs.Common.{◌≡◌, not}
use Rattle.facts.specs.Tests.{every}
use Rattle.archive.specs.Sound.{has_pair}
use Rattle.archive.specs.Rows.{named}
use Rattle.archive.proofs.Fours.{none_of}
use Rattle.archive.proofs.unique.four_new.Given as goal

abbrev pub invariant-loop-row : goal.invariant-loop-row
invariant-loop-row l = every (none_of (has_pair (named l.rows) l.p.bench l.p.number) (has_pair (named l.rows) l.q.bench l.q.number) (has_pair (named l.rows) l.r.bench l.r.number) (has_pair (named l.rows) l.s.bench l.s.number)) 0 l.row-index ≡ not l.seen
