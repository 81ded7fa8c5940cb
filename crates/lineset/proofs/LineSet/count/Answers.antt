-- `count`: the ones of the four words are the members.
use Rattle.std.proofs.Common.{rules, tests, ◌∙◌}
use lib.Count.{ones}
use lib.Seq.{ext_get_or}
use Rattle.std.proofs.lemmas.Iterator.{YieldsList-from_map, YieldsList-from_slice}
use Rattle.std.proofs.lemmas.Iterator.Consumers.{YieldsList-at, sum_by_from_yields_List, fits_by_from_yields_list}
use Rattle.lineset.proofs.Sets.{Words, words_of}
use Rattle.lineset.proofs.Operations.{count_words, count_fits}
use Rattle.lineset.proofs.LineSet.count.Goals as goal

pub sum-requires-clause-fits : goal.sum-requires-clause-fits
sum-requires-clause-fits c =
    let ws : Words c.args.self = words_of (search rules) (λ j. search rules) in
    fits_by_from_yields_list ones c.args.self.words c.map.result _
    (YieldsList-from_map _ ones (YieldsList-at c.map.ensures.source (YieldsList-from_slice c.args.self.words (ext_get_or 0 _ _ (search rules) (λ j l. search rules)))) c.map.ensures.closure
    (λ x r q k. search (rules, tests)))
    (count_fits c.args.self ws)

pub returns : goal.returns
returns c =
    let ws : Words c.args.self = words_of (search rules) (λ j. search rules) in
    sum_by_from_yields_List ones c.args.self.words c.map.result _ c.sum.ensures.ran
    (YieldsList-from_map _ ones (YieldsList-at c.map.ensures.source (YieldsList-from_slice c.args.self.words (ext_get_or 0 _ _ (search rules) (λ j l. search rules)))) c.map.ensures.closure
    (λ x r q k. search (rules, tests)))
    ∙ count_words c.args.self ws
