-- After i turns the first i bytes of the line are drawn.
use Rattle.std.proofs.Common.{◌≡◌, ℕ, ◌<◌, get_or}
use Rattle.scanline.specs.Drawing.{pixel_index, drawn_byte}
use Rattle.picture.proofs.paint.View.paint_line.Given as goal

abbrev pub invariant-loop-i : goal.invariant-loop-i
invariant-loop-i l = (k : ℕ) → k < l.i → get_or l.bytes k 0 ≡ drawn_byte l.video.control (get_or l.ram (pixel_index l.p k) 0)
