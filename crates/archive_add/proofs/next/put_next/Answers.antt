use Rattle.std.proofs.Common.{refl}
use Rattle.archive.proofs.Read.{sound_is}
use Rattle.archive_add.proofs.PutDown.{next_put}
use Rattle.archive_add.proofs.next.put_next.Goals as goal

pub returns : goal.returns
returns c =
    let s = c.args.archive.now in
    next_put s.layout.bytes.now s.layout.count _ _ _ _ _ _ _ _ _ _ (sound_is _ s.is_sound) s.layout.counted c.requires.fits c.requires.shown c.requires.whole refl refl c.put_entries.ensures c.copy.ensures c.put_picture.ensures
