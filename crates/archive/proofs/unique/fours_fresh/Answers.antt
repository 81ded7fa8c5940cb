use Rattle.std.proofs.Common.{◌≡◌, ◌+◌, ◌-◌, ◌*◌, refl, sym, ◌∙◌, arith}
use Rattle.facts.specs.Tests.{every}
use Rattle.archive.proofs.Fours.{part_fails, part_more}
use Rattle.archive.proofs.unique.fours_fresh.Goals as goal

pub loop-i-init : goal.loop-i-init
unfolding every
loop-i-init c = refl

pub returns-then-not-four_fresh : goal.returns-then-not-four_fresh
returns-then-not-four_fresh c =
    let i = c.loop-i.i in
    let n = c.args.n in
    let parts : 4 * n ≡ 4 * i + 4 + 4 * (n - i - 1) = omega arith in
    part_fails _ _ _ 4 (4 * n) _ parts (sym c.four_fresh.ensures ∙ c.if-not-four_fresh.true)

pub loop-i-preserved : goal.loop-i-preserved
loop-i-preserved c = part_more _ _ _ 4 _ (omega arith) c.loop-i.invariant (sym c.four_fresh.ensures ∙ c.if-not-four_fresh.false)
