use Rattle.std.proofs.Common.{◌≡◌, length, ◌∙◌, rules}
use Rattle.std.specs.Prelude.{Err}
use Rattle.picture.proofs.Answers.{lent_err, lent_enough, size_wrong, size_right, refresh_err, refresh_given, refresh_none, refresh_stays, refresh_accepted, refresh_drawn}
use Rattle.picture.proofs.refresh.Goals as goal

pub returns-in_err-check_lent-clause-answer : goal.returns-in_err-check_lent-clause-answer
returns-in_err-check_lent-clause-answer c =
    let k : c.from_residual.result ≡ Err c.in_err-check_lent.field-0.0 = search rules in
    let e = lent_err c.args.b (length c.args.ram.now) (length c.args.picture.now) _ c.check_lent.ensures _ c.in_err-check_lent.was in
    k ∙ refresh_err _ _ _ _ e.0 e.1

pub returns-in_err-check_lent-clause-drawn : goal.returns-in_err-check_lent-clause-drawn
returns-in_err-check_lent-clause-drawn c =
    refresh_stays _ _ _ (lent_err c.args.b (length c.args.ram.now) (length c.args.picture.now) _ c.check_lent.ensures _ c.in_err-check_lent.was).0

pub returns-in_err-check_lent-clause-given : goal.returns-in_err-check_lent-clause-given
returns-in_err-check_lent-clause-given c =
    let k : c.from_residual.result ≡ Err c.in_err-check_lent.field-0.0 = search rules in
    rw k
    (refresh_given c.args.b c.args.ram.now c.args.picture.now
    (lent_err c.args.b (length c.args.ram.now) (length c.args.picture.now) _ c.check_lent.ensures _ c.in_err-check_lent.was).0)

pub returns-in_err-check_lent-clause-none : goal.returns-in_err-check_lent-clause-none
returns-in_err-check_lent-clause-none c =
    let k : c.from_residual.result ≡ Err c.in_err-check_lent.field-0.0 = search rules in
    rw k
    (refresh_none c.args.b c.args.ram.now c.args.picture.now
    (lent_err c.args.b (length c.args.ram.now) (length c.args.picture.now) _ c.check_lent.ensures _ c.in_err-check_lent.was).0)

pub returns-in_default-clause-answer : goal.returns-in_default-clause-answer
returns-in_default-clause-answer c =
    let e = size_wrong c.args.b (length c.args.ram.now) (length c.args.picture.now) _ c.check_lent.ensures c.in_ok-check_lent.was c.in_default.ensures.cases in
    refresh_err _ _ _ _ e.0 e.1

pub returns-in_default-clause-drawn : goal.returns-in_default-clause-drawn
returns-in_default-clause-drawn c =
    refresh_stays _ _ _ (size_wrong c.args.b (length c.args.ram.now) (length c.args.picture.now) _ c.check_lent.ensures c.in_ok-check_lent.was c.in_default.ensures.cases).0

pub returns-in_default-clause-given : goal.returns-in_default-clause-given
returns-in_default-clause-given c =
    refresh_given c.args.b c.args.ram.now c.args.picture.now
    (size_wrong c.args.b (length c.args.ram.now) (length c.args.picture.now) _ c.check_lent.ensures c.in_ok-check_lent.was c.in_default.ensures.cases).0

pub returns-in_default-clause-none : goal.returns-in_default-clause-none
returns-in_default-clause-none c =
    refresh_none c.args.b c.args.ram.now c.args.picture.now
    (size_wrong c.args.b (length c.args.ram.now) (length c.args.picture.now) _ c.check_lent.ensures c.in_ok-check_lent.was c.in_default.ensures.cases).0

pub invariant_of-view : goal.invariant_of-view
invariant_of-view c = record { standard = lent_enough _ _ (length c.args.picture.now) _ c.check_lent.ensures c.in_ok-check_lent.was }

pub returns-clause-answer : goal.returns-clause-answer
returns-clause-answer c =
    let s = c.in-Some.ensures.cases.long in
    refresh_accepted _ _ _ (size_right _ _ _ _ c.check_lent.ensures c.in_ok-check_lent.was s) _ _ _ c.is_floating.ensures c.empty.ensures c.count.ensures

pub returns-clause-drawn : goal.returns-clause-drawn
returns-clause-drawn c =
    let s = c.in-Some.ensures.cases.long in
    refresh_drawn _ _ _ (size_right _ _ _ _ c.check_lent.ensures c.in_ok-check_lent.was s) _ _ c.in-Some.ensures.cases.same c.paint_set.ensures
