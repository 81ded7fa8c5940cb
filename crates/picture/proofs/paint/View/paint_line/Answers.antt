use Rattle.std.proofs.Common.{◌≡◌, ◌-◌, ◌*◌, ◌+◌, arith}
use Rattle.picture.proofs.Painting.{line_done}
use Rattle.picture.proofs.paint.View.paint_line.Goals as goal

pub returns : goal.returns
returns c =
    let e : c.args.line * 90 + 90 - c.args.line * 90 ≡ 90 = omega arith in
    rw e (line_done (record { video = c.args.self.video; ram = c.args.self.ram.now }) _ _ _ _ _ (omega arith) (omega arith) (omega arith) c.pointer_word.ensures c.read_pointer-p.ensures (λ i l. c.loop-i.invariant i (omega arith)))
