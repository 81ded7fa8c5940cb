-- The text of the first k groups lies over the start of `out`, where k pieces were given, and the rest of the input is left.
use Rattle.std.proofs.Common.{◌≡◌, ◌*◌, ◌≤◌, length, drop}
use Rattle.std.specs.Slice.Iter.{chunks_rest, chunks_size}
use Rattle.facts.specs.Lists.{in_room}
use Rattle.reach.specs.Text.{text_of, groups}
use Rattle.reach.proofs.fill.Given as goal

abbrev pub invariant-loop-group : goal.invariant-loop-group
invariant-loop-group l =
    (goal.iterator-loop-group).can_next l.group-iterator
    × (goal.iterator-loop-group).is_finite l.group-iterator
    × (chunks_size l.group-iterator ≡ 9)
    × (chunks_rest l.group-iterator ≡ drop (9 * length l.yielded) l.input)
    × (length l.yielded ≤ groups (length l.input))
    × (l.to ≡ length (text_of l.input (length l.yielded)))
    × (l.out ≡ in_room (text_of l.input (length l.yielded)) l.initial.out)
