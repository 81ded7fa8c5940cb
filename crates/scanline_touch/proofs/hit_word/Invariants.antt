-- `hit_word`: the digits from hit 4 * i on are made.
use Rattle.std.proofs.Common.{◌≡◌, ℕ, Bool, ◌-◌, ◌*◌, ◌^◌, ◌<◌, get_or}
use mir.Val.{bool_byte}
use Rattle.lineset.specs.Lines.{packed}
use Rattle.scanline_touch.proofs.hit_word.Given as goal

abbrev pub invariant-loop-i : goal.invariant-loop-i
invariant-loop-i l =
    (l.m < 2 ^ (64 - 4 * l.i))
    × ((p : ℕ → Bool) → ((j : ℕ) → j < 64 → get_or l.hits j 0 ≡ bool_byte (p j)) → l.m ≡ packed p (4 * l.i) (64 - 4 * l.i))
