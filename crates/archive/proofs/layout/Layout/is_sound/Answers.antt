use Rattle.std.proofs.Common.{◌≡◌, refl, sym, ◌∙◌, arith}
use Rattle.facts.specs.Tests.{every}
use Rattle.facts.proofs.Tests.{below_fails, below_more}
use Rattle.archive.proofs.Tests.{row_sound, rows_fail, pairs_decide}
use Rattle.archive.proofs.Rows.{rows_unique}
use Rattle.archive.proofs.layout.Layout.is_sound.Goals as goal

pub loop-k-init : goal.loop-k-init
unfolding every
loop-k-init c = refl

pub returns-then-not-row_sound : goal.returns-then-not-row_sound
returns-then-not-row_sound c = rows_fail _ _ (below_fails (row_sound c.args.self.now.bytes.now) _ c.loop-k.k (omega arith) (sym c.row_sound.ensures ∙ c.if-not-row_sound.true))

pub loop-k-preserved : goal.loop-k-preserved
loop-k-preserved c = below_more (row_sound c.args.self.now.bytes.now) _ c.loop-k.invariant (sym c.row_sound.ensures ∙ c.if-not-row_sound.false)

pub returns : goal.returns
returns c =
    let e : c.loop-k.k ≡ c.args.self.now.count = omega arith in
    c.all_fresh.ensures
    ∙ rows_unique _ _ _ c.rows.ensures.count c.rows.ensures.each
    ∙ pairs_decide _ _ (rw e at c.loop-k.invariant)
