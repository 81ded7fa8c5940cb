use Rattle.archive_add.proofs.PutDown.{picture_put}
use Rattle.archive_add.proofs.next.put_picture.Goals as goal

pub returns : goal.returns
returns c =
    picture_put c.args.picture.now _ _ _ _ _ c.requires.used_in_bounds c.requires.used_bound c.requires.to_in_bounds c.copy.ensures (c.fill.ensures.after (λ y e. e))
