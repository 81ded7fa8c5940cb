use Rattle.std.proofs.Common.{rules, sym, ◌∙◌, ap}
use Rattle.lineset.specs.declared.LineSet.{LineSet}
use Rattle.lineset.proofs.Sets.{Words, words_of}
use Rattle.board.specs.Record.{view_of, with_dirty}
use Rattle.board.proofs.Dirty.{store_unmarked, store_out}
use Rattle.board.proofs.record.Board.store.Goals as goal

pub returns-then-is_unmarked : goal.returns-then-is_unmarked
returns-then-is_unmarked c =
    let s = c.args in
    let w : Words s.self.dirty = words_of (search rules) (λ j. search rules) in
    ap (λ (d : LineSet). with_dirty s.self d)
    (sym
    (store_unmarked s.self.dirty s.self.rate (view_of s.self s.ram.now) c.args.at s.value w (search rules)
    (sym c.is_unmarked.ensures ∙ c.if-is_unmarked.true)))

pub returns-then-at-ram : goal.returns-then-at-ram
returns-then-at-ram c =
    let s = c.args in
    let w : Words s.self.dirty = words_of (search rules) (λ j. search rules) in
    ap (λ (d : LineSet). with_dirty s.self d)
    (sym (store_out s.self.dirty s.self.rate (view_of s.self s.ram.now) c.args.at s.value w c.if-at-ram.true))
