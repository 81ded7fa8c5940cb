use Rattle.std.proofs.Common.{rules}
use Rattle.c_numbers.specs.Packing.{reply}
use Rattle.c_numbers.proofs.Packed.{Packs, made_packed}
use Rattle.c_numbers.proofs.packing.make_pointer_reply.Goals as goal

pub returns : goal.returns
returns c =
    let h : Packs (λ w. reply w 0 0 0) c.map_or_else.result c.made.result = search rules in
    made_packed (record { block = c.args.block; start = c.args.start }) c.map_or_else.result c.made.result c.made.ensures h
