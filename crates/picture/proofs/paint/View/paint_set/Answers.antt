use Rattle.std.proofs.Common.{arith, sym, ◌∙◌}
use Rattle.facts.proofs.Searches.{found_at}
use Rattle.picture.proofs.Painting.{passed_start, passed_turn, passed_none}
use Rattle.picture.proofs.paint.View.paint_set.Goals as goal

pub loop-line-init : goal.loop-line-init
loop-line-init c = (omega arith, passed_start _ _ _)

pub overflow_cast-line : goal.overflow_cast-line
overflow_cast-line c = let f = found_at _ _ _ _ (sym c.next.ensures ∙ c.in-Some.is) in omega (arith, f.high)

pub overflow_add-n : goal.overflow_add-n
overflow_add-n c = let f = found_at _ _ _ _ (sym c.next.ensures ∙ c.in-Some.is) in omega (arith, f.high)

pub loop-line-smaller : goal.loop-line-smaller
loop-line-smaller c = let f = found_at _ _ _ _ (sym c.next.ensures ∙ c.in-Some.is) in omega (arith, f.low, f.high)

pub loop-line-preserved : goal.loop-line-preserved
loop-line-preserved c =
    let r = sym c.next.ensures ∙ c.in-Some.is in
    (omega (arith, (found_at _ _ _ _ r).high), passed_turn _ _ _ _ _ _ _ _ r c.loop-line.invariant.1 c.paint_line.ensures)

pub returns : goal.returns
returns c = passed_none _ _ _ _ _ (omega arith) c.loop-line.invariant.0 (sym c.next.ensures ∙ c.in_default.is) c.loop-line.invariant.1
