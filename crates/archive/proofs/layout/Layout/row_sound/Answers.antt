use Rattle.std.proofs.Common.{arith}
use Rattle.archive.proofs.Tests.{row_fails, row_known, row_decides}
use Rattle.archive.proofs.layout.Layout.row_sound.Goals as goal

pub returns-then-not-is_good : goal.returns-then-not-is_good
returns-then-not-is_good c = row_fails _ _ _ _ _ c.args.self.now.counted c.entry-e.ensures c.is_good.ensures c.if-not-is_good.true

pub overflow_sub-used : goal.overflow_sub-used
overflow_sub-used c =
    let m = row_known _ _ _ _ _ c.args.self.now.counted c.entry-e.ensures c.is_good.ensures c.if-not-is_good.false in
    omega (arith, m.0)

pub slice_bounds-all_zero-end : goal.slice_bounds-all_zero-end
slice_bounds-all_zero-end c =
    let m = row_known _ _ _ _ _ c.args.self.now.counted c.entry-e.ensures c.is_good.ensures c.if-not-is_good.false in
    omega (arith, m.0, c.args.self.now.filled)

pub returns : goal.returns
returns c = row_decides _ _ _ _ _ c.args.self.now.counted c.entry-e.ensures c.is_good.ensures c.if-not-is_good.false (omega arith) _ c.all_zero.ensures
