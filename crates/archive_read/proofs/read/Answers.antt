use Rattle.std.proofs.Common.{◌∙◌, sym, refl, arith}
use Rattle.archive_read.proofs.Reading.{gave, picture_inside, read_done}
use Rattle.archive_read.proofs.read.Goals as goal

pub slice_bounds-copy-end : goal.slice_bounds-copy-end
slice_bounds-copy-end c =
    let g = gave c.args.a.now c.args.k c.in_ok-e.e c.in_ok-open.ensures.1 (rw c.in_ok-open.ensures.0 at (sym c.entry.ensures ∙ c.in_ok-e.was)) in
    let s = picture_inside _ _ _ g refl in
    omega (arith, s.0, s.1)

pub returns-clause-lines : goal.returns-clause-lines
returns-clause-lines c =
    let g = gave c.args.a.now c.args.k c.in_ok-e.e c.in_ok-open.ensures.1 (rw c.in_ok-open.ensures.0 at (sym c.entry.ensures ∙ c.in_ok-e.was)) in
    (read_done _ _ _ c.if-picture-ne23040.false _ g refl _ _ refl refl _ c.copy.ensures).1
