-- By the rate: on 50 Hz every line is shown, on 60 Hz the last word tells.
use Rattle.std.proofs.Common.{◌≡◌, sym, ◌∙◌, ap, Bool, true, false, ◌&&◌, eqb, ltb, get_or}
use mathlib.Core.Bool.{and-true}
use Rattle.facts.proofs.Bools.{under}
use Rattle.lineset.specs.Lines.{inside, shown_set}
use Rattle.lineset.proofs.Sets.{Words}
use Rattle.lineset.proofs.Shown.{inside_words}
use Rattle.board.specs.declared.record.Board.{Board}
use Rattle.board.specs.Clock.{frame}
use Rattle.board.specs.Record.{good_rate}
use Rattle.board.specs.Ranges.{timing_in_range}

module _ (b : Board) (w : Words b.dirty) where
  pub at_50 : eqb b.rate 50 ≡ true → ltb b.clock.beam (frame b.rate) ≡ timing_in_range b
  unfolding timing_in_range good_rate
  at_50 e =
      let all : true ≡ inside b.dirty (shown_set b.rate) = rw e at (inside_words b.dirty w b.rate (rw e)) in
      rw e (sym (and-true (ltb b.clock.beam (frame b.rate))) ∙ ap (λ (t : Bool). ltb b.clock.beam (frame b.rate) && t) all)

  pub not_at_50 : eqb b.rate 50 ≡ false → (eqb b.rate 60 && (ltb b.clock.beam (frame b.rate) && ltb (get_or b.dirty.words 3 0) 256)) ≡ timing_in_range b
  unfolding timing_in_range good_rate
  not_at_50 e =
      rw e
      (under (eqb b.rate 60) _ _
      (λ (h : eqb b.rate 60 ≡ true).
      let last : ltb (get_or b.dirty.words 3 0) 256 ≡ inside b.dirty (shown_set b.rate) = rw e at (inside_words b.dirty w b.rate (rw (e, h))) in
      ap (λ (t : Bool). ltb b.clock.beam (frame b.rate) && t) last))
