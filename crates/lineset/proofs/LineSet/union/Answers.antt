-- `union`: each word of the result is packed from the members of both sets.
use Rattle.std.proofs.Common.{rules}
use Rattle.lineset.proofs.Sets.{Words, words_of}
use Rattle.lineset.proofs.Operations.{or_words}
use Rattle.lineset.proofs.LineSet.union.Goals as goal

pub returns : goal.returns
returns c =
    let ws : Words c.args.self = words_of (search rules) (λ j. search rules) in
    let wo : Words c.args.other = words_of (search rules) (λ j. search rules) in
    or_words c.args.self c.args.other c.by_words.result ws wo (search rules) (λ j l. search rules)
