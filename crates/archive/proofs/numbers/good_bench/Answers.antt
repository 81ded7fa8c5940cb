use Rattle.std.proofs.Common.{◌∙◌}
use Rattle.archive.specs.Sound.{good_bench}
use Rattle.archive.proofs.Tests.{is_le_cmp}
use Rattle.archive.proofs.numbers.good_bench.Goals as goal

pub returns : goal.returns
unfolding good_bench
returns c = c.contains.ensures.value ∙ rw (c.new.ensures.start, c.new.ensures.end, c.new.ensures.exhausted, is_le_cmp 1 c.args.n, is_le_cmp c.args.n 65535)
