use Rattle.std.proofs.Common.{rules, ◌≡◌, ◌+◌, length, length-append, [], ◌∷◌, ◌++◌, refl, ◌∙◌}
use Rattle.facts.proofs.Rooms.{room_nothing}
use Rattle.reach.specs.Text.{text_of}
use Rattle.reach.proofs.Laws.{next_length_lem, next_out, piece_is, rest_is, one_more}
use Rattle.reach.proofs.fill.Goals as goal

pub loop-group-init : goal.loop-group-init
unfolding text_of
loop-group-init c = (search rules, tt, search rules, search rules, search rules, refl, room_nothing c.args.out.now)

pub loop-group-preserved : goal.loop-group-preserved
loop-group-preserved c =
    let i = c.loop-group.invariant in
    let input = c.args.input.now in
    let k = length c.loop-group.yielded in
    let steps = c.in-Some.ensures.steps in
    let p = c.put_line-to.ensures in
    let size = rw i.2 at steps.1.1 in
    let g = piece_is input _ _ _ k i.3 steps.1.0 size in
    let e : length (c.loop-group.yielded ++ c.in-Some.group ∷ []) ≡ length c.loop-group.yielded + 1 = length-append _ _ in (
      search rules,
      tt,
      steps.0 ∙ i.2,
      rw e (rest_is input _ _ _ k i.3 steps.1.0 size),
      rw e (one_more input _ k i.3 steps.1.2),
      rw e (next_length_lem input _ _ k _ i.5 i.6 (rw g at p.value)),
      rw e (next_out input _ _ k _ i.5 i.6 (rw g at p.value) (rw g at p.out_after)),
    )
