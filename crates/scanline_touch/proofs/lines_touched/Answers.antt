-- `lines_touched`: the four quarters of the entries from the top line's on, and each word of the set cut out of two of them.
use Rattle.std.proofs.Common.{rules, ◌≡◌, ℕ, Bool, ◌+◌, ◌*◌, ◌/◌, ◌%◌, ◌<◌, get_or}
use Rattle.facts.proofs.FromFn.{made_each}
use Rattle.lineset.specs.Lines.{packed}
use Rattle.scanline.specs.Drawing.{touches}
use Rattle.scanline_touch.proofs.Hits.{set_of_words}
use Rattle.scanline_touch.proofs.lines_touched.Goals as goal

pub returns : goal.returns
returns c =
    let table = c.args.table in
    let top = c.args.top in
    let q = c.from_fn-quarters.result in
    let quarter : (j : ℕ) → j < 4 → get_or q j 0 ≡ packed (touches c.args.ram.now table 0 c.args.at) (64 * ((top / 64 + j) % 4)) 64 =
    made_each _ (λ (j y : ℕ). y ≡ packed (touches c.args.ram.now table 0 c.args.at) (64 * ((top / 64 + j) % 4)) 64) _
    (λ i y q k. (search rules, search rules)) c.from_fn-quarters.ensures.items in
    let word : (j : ℕ) → j < 4 → (p : ℕ → Bool) (from : ℕ) → get_or q j 0 ≡ packed p from 64 → get_or q ((j + 1) % 4) 0 ≡ packed p (from + 64) 64
    → get_or c.from_fn.result j 0 ≡ packed p (from + top % 64) 64 =
    made_each _
    (λ (j y : ℕ). (p : ℕ → Bool) (from : ℕ) → get_or q j 0 ≡ packed p from 64 → get_or q ((j + 1) % 4) 0 ≡ packed p (from + 64) 64 → y ≡ packed p (from + top % 64) 64)
    _
    (λ i y q k. (search rules, search rules)) c.from_fn.ensures.items in
    set_of_words c.args.ram.now table c.args.at top q c.from_fn.result (search rules) quarter word
