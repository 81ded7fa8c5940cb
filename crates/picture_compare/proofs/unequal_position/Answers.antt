use Rattle.std.proofs.Common.{arith}
use Rattle.picture_compare.proofs.Differences.{position_found}
use Rattle.picture_compare.proofs.unequal_position.Goals as goal

pub returns : goal.returns
returns c =
    position_found _ _ _ _ _ (omega arith) c.loop-i-test.true c.unequal_pixel-k.ensures.0 c.loop-i.invariant.1 c.unequal_pixel-k.ensures.1.0
    c.unequal_pixel-k.ensures.1.1
