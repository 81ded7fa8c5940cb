-- `hit_word`: a turn of the loop puts four digits more below those made.
use Rattle.std.proofs.Common.{arith}
use Rattle.lineset.proofs.Packed.{packed_start}
use Rattle.scanline_touch.proofs.Hits.{fours_down, fours_fit}
use Rattle.scanline_touch.proofs.hit_word.Goals as goal

pub loop-i-init : goal.loop-i-init
loop-i-init c = (omega arith, λ p f. packed_start p 64)

pub overflow_mul-m : goal.overflow_mul-m
overflow_mul-m c = omega (arith, (fours_fit c.loop-i.i c.loop-i.m 0 (omega arith) (omega arith) c.loop-i.invariant.0 (omega arith)).1)

pub overflow_add-m : goal.overflow_add-m
overflow_add-m c =
    omega (arith, (fours_fit c.loop-i.i c.loop-i.m c.four_hits.result (omega arith) (omega arith) c.loop-i.invariant.0 c.four_hits.ensures.upper_bound).1)

pub loop-i-preserved : goal.loop-i-preserved
loop-i-preserved c = (
  (fours_fit c.loop-i.i c.loop-i.m c.four_hits.result (omega arith) (omega arith) c.loop-i.invariant.0 c.four_hits.ensures.upper_bound).0,
  λ p f. fours_down p _ _ _ (omega arith) (omega arith) (c.loop-i.invariant.1 p f) (c.four_hits.ensures.by_index p f),
)
