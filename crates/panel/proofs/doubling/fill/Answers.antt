use Rattle.std.proofs.Common.{arith, length-set}
use Rattle.panel.proofs.Widening.{filled_pair}
use Rattle.panel.proofs.doubling.fill.Goals as goal

pub loop-i-preserved : goal.loop-i-preserved
loop-i-preserved c = (
  simp length-set c.loop-i.invariant.0,
  filled_pair c.args.line.now _ _ _ _ c.loop-i-test.true c.loop-i.invariant.0 c.to_be_bytes.ensures (omega (arith, c.doubled.ensures)) c.loop-i.invariant.1,
)
