use Rattle.std.proofs.Common.{rules}
use Rattle.archive.specs.Sound.{has_pair}
use Rattle.archive.specs.Rows.{named, pair_in, same_pair}
use Rattle.archive.proofs.Pairs.{first_is}
use Rattle.archive.proofs.unique.index_of.Goals as goal

pub returns : goal.returns
unfolding has_pair named pair_in same_pair
returns c = first_is _ _ _ (search rules)
