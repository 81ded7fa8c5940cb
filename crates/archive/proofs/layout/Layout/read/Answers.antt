use Rattle.std.proofs.Common.{refl, sym, ◌∙◌, arith}
use Rattle.archive.proofs.Read.{HeaderIs, header_is}
use Rattle.archive.proofs.Tests.{too_short, header_told, header_counts}
use Rattle.archive.proofs.layout.Layout.read.Goals as goal

pub returns-then-bytes-lt20 : goal.returns-then-bytes-lt20
returns-then-bytes-lt20 c = sym (too_short _ (omega arith))

pub returns-then-not-is_good : goal.returns-then-not-is_good
returns-then-not-is_good c = header_told _ _ _ c.read-header.ensures c.is_good.ensures ∙ c.if-not-is_good.true

pub invariant_of-result : goal.invariant_of-result
invariant_of-result c =
    let h : HeaderIs c.args.bytes.now = header_is _ (header_told _ _ _ c.read-header.ensures c.is_good.ensures ∙ c.if-not-is_good.false) in
    let e = header_counts _ _ c.read-header.ensures in
    record { counted = e; few = rw e h.few; filled = rw e h.size }

pub returns : goal.returns
returns c = (refl, header_told _ _ _ c.read-header.ensures c.is_good.ensures ∙ c.if-not-is_good.false)
