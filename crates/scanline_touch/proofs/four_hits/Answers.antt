-- `four_hits`: the four bytes as one number, and its digits.
use Rattle.std.proofs.Common.{arith, ◌≡◌, ℕ, ◌+◌, ◌*◌, ◌/◌, ◌%◌, get_or, ap, ◌∙◌}
use Rattle.scanline_touch.proofs.Hits.{hits_four}
use Rattle.scanline_touch.proofs.four_hits.Goals as goal

pub returns-clause-by_index : goal.returns-clause-by_index
returns-clause-by_index c p f =
    let hits = c.args.hits.now in
    let i = c.args.i in
    let sum : c.from_le_bytes-bytes.result ≡ get_or hits i 0 + 256 * get_or hits (i + 1) 0 + 65536 * get_or hits (i + 2) 0 + 16777216 * get_or hits (i + 3) 0 = omega (arith, c.from_le_bytes-bytes.ensures) in
    ap (λ (n : ℕ). n * 2113665 / 2097152 % 16) sum ∙ hits_four hits i (omega arith) p (λ j l. f j (omega arith))
