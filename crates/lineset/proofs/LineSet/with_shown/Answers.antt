-- `with_shown`: the lines of the shown set are those that are shown.
use Rattle.std.proofs.Common.{rules}
use Rattle.lineset.proofs.Shown.{union_shown}
use Rattle.lineset.proofs.LineSet.with_shown.Goals as goal

pub returns : goal.returns
returns c = union_shown c.args.self _ _ _ c.args.rate c.union.ensures c.shown.ensures (search rules)
