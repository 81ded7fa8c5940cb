use Rattle.archive.proofs.Written.{shown_most}
use Rattle.archive_add.proofs.Adding.{add_taken, add_length}
use Rattle.archive_add.proofs.add.Goals as goal

pub put_next-requires-clause-few : goal.put_next-requires-clause-few
put_next-requires-clause-few c =
    let t = add_taken _ _ _ _ _ _ c.in_ok-archive.ensures.1 in
    rw (c.in_ok-archive.archive.layout.counted, c.in_ok-archive.ensures.0) t.few

pub put_next-requires-clause-fits : goal.put_next-requires-clause-fits
put_next-requires-clause-fits c =
    let t = add_taken _ _ _ _ _ _ c.in_ok-archive.ensures.1 in
    rw (c.in_ok-archive.archive.layout.counted, c.in_ok-archive.ensures.0) t.fits

pub put_next-requires-clause-shown : goal.put_next-requires-clause-shown
put_next-requires-clause-shown c = shown_most _ (add_taken _ _ _ _ _ _ c.in_ok-archive.ensures.1).good_shown_lem

pub put_next-requires-clause-whole : goal.put_next-requires-clause-whole
put_next-requires-clause-whole c = (add_taken _ _ _ _ _ _ c.in_ok-archive.ensures.1).whole

pub returns-clause-length : goal.returns-clause-length
returns-clause-length c = add_length _ _ _ _ _ _ _ _ c.in_ok-archive.archive.layout.counted c.in_ok-archive.ensures.0 c.in_ok-archive.ensures.1
