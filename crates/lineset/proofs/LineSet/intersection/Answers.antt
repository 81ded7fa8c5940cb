-- `intersection`: each word of the result is packed from the members of both sets.
use Rattle.std.proofs.Common.{rules}
use Rattle.lineset.proofs.Sets.{Words, words_of}
use Rattle.lineset.proofs.Operations.{and_words}
use Rattle.lineset.proofs.LineSet.intersection.Goals as goal

pub returns : goal.returns
returns c =
    let ws : Words c.args.self = words_of (search rules) (λ j. search rules) in
    let wo : Words c.args.other = words_of (search rules) (λ j. search rules) in
    and_words c.args.self c.args.other c.by_words.result ws wo (search rules) (λ j l. search rules)
