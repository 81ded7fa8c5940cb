-- `next`: what is found in the first word, in a later one, or nowhere.
use Rattle.std.proofs.Common.{rules, tests, arith, None, Some, ◌≡◌, ◌≢◌, ℕ, ◌+◌, ◌/◌, ◌<◌, ◌≤◌, get_or, ◌∙◌}
use Rattle.std.proofs.lemmas.Iterator.{first_from_Range}
use Rattle.std.proofs.lemmas.List.{get_or_read}
use Rattle.lineset.proofs.Sets.{Words, words_of}
use Rattle.lineset.proofs.Operations.{first_at, first_later, first_nowhere}
use Rattle.lineset.proofs.LineSet.next.Goals as goal

pub returns-then-word-ne0 : goal.returns-then-word-ne0
returns-then-word-ne0 c =
    let ws : Words c.args.self = words_of (search rules) (λ j. search rules) in
    let n : c.args.n < 256 = grind arith in
    first_at c.args.self ws c.args.n c.in_ok-word.field-0.now n (search rules) c.if-word-ne0.true

pub returns-in_err-later : goal.returns-in_err-later
returns-in_err-later c =
    let ws : Words c.args.self = words_of (search rules) (λ j. search rules) in
    let n : c.args.n < 256 = grind arith in
    let none : (k : ℕ) → c.args.n / 64 + 1 ≤ k → k < 4 → get_or c.args.self.words k 0 ≡ 0 =
    first_from_Range _ _ _ None (λ i. get_or c.args.self.words i 0 ≢ 0) (λ i. get_or c.args.self.words i 0 ≡ 0) c.in_err-later.ensures.ran
    (λ x q k. grind (arith, tests, get_or_read))
    (λ x q k. (search rules, grind (arith, tests, get_or_read))) in
    c.from_residual-in_err-later.ensures
    ∙ first_nowhere c.args.self ws c.args.n c.in_ok-word.field-0.now n (search rules) c.if-word-ne0.false none

pub overflow_add-result-2 : goal.overflow_add-result-2
overflow_add-result-2 c =
    let found =
    first_from_Range _ _ _ (Some c.in_ok-later.later) (λ i. get_or c.args.self.words i 0 ≢ 0) (λ i. get_or c.args.self.words i 0 ≡ 0) c.in_ok-later.ensures.ran
    (λ x q k. grind (arith, tests, get_or_read))
    (λ x q k. (search rules, grind (arith, tests, get_or_read))) in
    let low : c.in_ok-later.later < 4 = found.1 in
    search rules

pub returns : goal.returns
returns c =
    let ws : Words c.args.self = words_of (search rules) (λ j. search rules) in
    let n : c.args.n < 256 = grind arith in
    let found =
    first_from_Range _ _ _ (Some c.in_ok-later.later) (λ i. get_or c.args.self.words i 0 ≢ 0) (λ i. get_or c.args.self.words i 0 ≡ 0) c.in_ok-later.ensures.ran
    (λ x q k. grind (arith, tests, get_or_read))
    (λ x q k. (search rules, grind (arith, tests, get_or_read))) in
    first_later c.args.self ws c.args.n c.in_ok-word.field-0.now n (search rules) c.if-word-ne0.false c.in_ok-later.later found.0 found.1 found.2 found.3
