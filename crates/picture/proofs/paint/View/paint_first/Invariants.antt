-- The lines below the one at hand are drawn.
use Rattle.std.proofs.Common.{◌≡◌, ℕ, ltb}
use Rattle.picture.specs.Pictures.{painted}
use Rattle.picture.proofs.paint.View.paint_first.Given as goal

abbrev pub invariant-loop-line : goal.invariant-loop-line
invariant-loop-line l = l.picture ≡ painted (λ (L : ℕ). ltb L l.line) (record { video = l.self.video; ram = l.self.ram.now }) l.initial.picture
