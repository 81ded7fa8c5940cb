use Rattle.std.proofs.Common.{◌∙◌}
use Rattle.archive.proofs.Pairs.{none_new}
use Rattle.archive_add.proofs.Adding.{none_told}
use Rattle.archive_add.proofs.is_new.Goals as goal

pub returns-then-good_fields : goal.returns-then-good_fields
returns-then-good_fields c =
    rw (← c.good_fields.ensures, c.if-good_fields.true) (none_told _ _ c.is_none.ensures ∙ rw (c.find.ensures, c.pair.ensures) (none_new _ _ _ _))
