use Rattle.std.proofs.Common.{rules, sym, ◌∙◌, ap, ℕ, set}
use Rattle.lineset.specs.declared.LineSet.{LineSet}
use Rattle.lineset.proofs.Sets.{Words, words_of}
use Rattle.board.specs.Record.{view_of, with_dirty}
use Rattle.board.specs.Dirty.{with_marks}
use Rattle.board.proofs.Dirty.{store_unmarked, store_out}
use Rattle.board.proofs.record.Board.key.Goals as goal

pub returns-then-is_unmarked : goal.returns-then-is_unmarked
returns-then-is_unmarked c =
    let s = c.args in
    let w : Words s.self.dirty = words_of (search rules) (λ j. search rules) in
    ap (λ (d : LineSet). with_dirty s.self d)
    (sym
    (store_unmarked s.self.dirty s.self.rate (view_of s.self s.ram.now) c.keyboard_index-index.result s.value w (search rules)
    (sym c.is_unmarked.ensures ∙ c.if-is_unmarked.true)))
    ∙ ap (λ (n : ℕ). with_marks s.self s.ram.now s.self (set s.ram.now n s.value)) c.keyboard_index-index.ensures

pub returns-then-index-ram : goal.returns-then-index-ram
returns-then-index-ram c =
    let s = c.args in
    let w : Words s.self.dirty = words_of (search rules) (λ j. search rules) in
    ap (λ (d : LineSet). with_dirty s.self d)
    (sym (store_out s.self.dirty s.self.rate (view_of s.self s.ram.now) c.keyboard_index-index.result s.value w c.if-index-ram.true))
    ∙ ap (λ (n : ℕ). with_marks s.self s.ram.now s.self (set s.ram.now n s.value)) c.keyboard_index-index.ensures
