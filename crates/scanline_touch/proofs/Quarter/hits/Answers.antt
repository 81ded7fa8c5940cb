-- `hits`: each entry's hit is made by one call, and the pointer bytes' hit is set besides.
use Rattle.std.proofs.Common.{rules, tests, ◌≡◌, ℕ, ◌+◌, ◌*◌, ◌<◌, get_or}
use mir.Val.{bool_byte}
use Rattle.facts.proofs.FromFn.{made_each}
use Rattle.scanline.specs.Pointers.{pointer_word}
use Rattle.scanline.specs.Drawing.{pixel_touched}
use Rattle.scanline_touch.proofs.Hits.{within, outside}
use Rattle.scanline_touch.proofs.Quarter.hits.Goals as goal

pub returns-then-self : goal.returns-then-self
returns-then-self c =
    let s = c.args.self.now in
    let f : (j : ℕ) → j < 64 → get_or c.from_fn-hits.result j 0 ≡ bool_byte (pixel_touched (pointer_word s.ram.now s.table 0 (64 * s.number + j)) s.at) =
    made_each _ (λ (j y : ℕ). y ≡ bool_byte (pixel_touched (pointer_word s.ram.now s.table 0 (64 * s.number + j)) s.at)) _
    (λ i y q k. (search rules, search (rules, tests))) c.from_fn-hits.ensures.items in
    within s.ram.now s.table s.number s.at c.from_fn-hits.result (search rules) f c.if-self.true (search rules)

pub returns-else-self : goal.returns-else-self
returns-else-self c =
    let s = c.args.self.now in
    let f : (j : ℕ) → j < 64 → get_or c.from_fn-hits.result j 0 ≡ bool_byte (pixel_touched (pointer_word s.ram.now s.table 0 (64 * s.number + j)) s.at) =
    made_each _ (λ (j y : ℕ). y ≡ bool_byte (pixel_touched (pointer_word s.ram.now s.table 0 (64 * s.number + j)) s.at)) _
    (λ i y q k. (search rules, search (rules, tests))) c.from_fn-hits.ensures.items in
    outside s.ram.now s.table s.number s.at c.from_fn-hits.result (search rules) f c.if-self.false
