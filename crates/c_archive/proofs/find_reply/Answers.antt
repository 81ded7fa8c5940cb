use Rattle.std.proofs.Common.{◌≡◌, ℕ, Option, Some, refl, sym, ap, ◌∙◌, arith}
use Rattle.archive.specs.Answers.{find_answer}
use Rattle.c_archive.specs.Replies.{index_reply}
use Rattle.c_archive.proofs.Small.{find_parts, find_packed, index_small}
use Rattle.c_archive.proofs.find_reply.Goals as goal

pub reply-requires : goal.reply-requires
reply-requires c =
    let f = find_parts _ _ _ _ _ c.find.ensures c.parts-index.ensures in
    let i : (find_answer c.args.a.now c.args.bench c.args.number).index ≡ Some c.in-Some.k = sym (ap (λ (p : Option ℕ × ℕ). p.0) f) ∙ c.in-Some.is in
    let s = index_small _ _ _ c.in-Some.k _ refl i in
    (omega (arith, s), omega arith)

pub returns-in-Some : goal.returns-in-Some
unfolding index_reply
returns-in-Some c =
    let f = find_parts _ _ _ _ _ c.find.ensures c.parts-index.ensures in
    find_packed _ _ _ _ _ f (c.reply.ensures ∙ sym (ap (λ (i : Option ℕ). index_reply i c.parts-index.result.1) c.in-Some.is))

pub returns-in-None : goal.returns-in-None
unfolding index_reply
returns-in-None c =
    let f = find_parts _ _ _ _ _ c.find.ensures c.parts-index.ensures in
    find_packed _ _ _ _ _ f (c.reply-in-None.ensures ∙ sym (ap (λ (i : Option ℕ). index_reply i c.parts-index.result.1) c.in-None.is))
