-- What a result tells of the reply that it is packed in.
-- Assumes nothing.
use Prim.Native.Nat.{ℕ, ◌*◌, min}
use native.Mathlib.Omega.{arith}
use mathlib.Core.Path.{◌≡◌, refl, sym, ◌∙◌, ap}
use mathlib.Core.Bool.{Bool, true, false, cond, ◌&&◌}
use mathlib.Core.List.{List, [], ◌∷◌}
use borrow.Author.Tests.{eqb-false, ne_eqb, leb-true, leb-false}
use lib.Dec.{eqb, leb}
use lib.ListN.{length}
use mir.Val.{bool_byte}
use Rattle.std.specs.Prelude.{Option, None, Some, Result, Ok, Err}
use Rattle.refusal.specs.declared.Refusal.{Refusal}
use Rattle.refusal.specs.Numbers.{number, named, answered}
use Rattle.board.specs.declared.record.Board.{Board}
use Rattle.board.specs.Record.{record_refusal, first_refusal}
use Rattle.paging.specs.declared.Sizes.{Sizes}
use Rattle.paging.specs.declared.Paging.{Paging}
use Rattle.board_power.specs.Power.{zero_board, power_on_refusal, powered_on}
use Rattle.step_rules.proofs.Decoding.{three_refused}
use Rattle.scanline.specs.Drawing.{picture_fits}
use Rattle.picture_compare.specs.declared.Position.{Position}
use Rattle.picture_compare.specs.Differences.{difference_answer}
use Rattle.picture.specs.declared.Drawn.{Drawn}
use Rattle.picture.specs.declared.Refreshed.{Refreshed}
use Rattle.picture.specs.Pictures.{picture_refusal, draw_answer, refresh_answer, next_refusal, next_answer, draw_result, refresh_result, next_result}
use Rattle.picture.proofs.Answers.{told_ok, told_err}
use Rattle.c_numbers.specs.Packing.{reply}
use Rattle.c_numbers.proofs.Packed.{Known}
use Rattle.c_calls.specs.Calls.{power_on_reply, draw_reply, refresh_reply, line_reply, next_reply, position_reply, difference_reply}
use Rattle.c_calls.proofs.Known.{picture_known, next_known, power_on_known}

-- what a refused call says of its number
err_number : {A : Type 0} (n : ℕ) (x : A) (e : Refusal) (r : Result A Refusal) → Known n → r ≡ answered n x → r ≡ Err e → (n ≡ 0 → ⊥) × (number e ≡ n)
unfolding Known
err_number n x e r k c d = let t = told_err n x e r c d in (t.0, ap number t.1 ∙ k t.0)

-- ---- draw

module _ (b : Board) (ram picture : List ℕ) (r : Result Drawn Refusal) (c : r ≡ draw_result (draw_answer b ram picture)) where
  pub draw_ok : (d : Drawn) → r ≡ Ok d → reply 0 (8 * bool_byte d.floating) 0 0 ≡ draw_reply (draw_answer b ram picture)
  unfolding draw_answer draw_reply
  draw_ok d e = let t = told_ok _ _ d r c e in ap (λ (x : Drawn). reply 0 (8 * bool_byte x.floating) 0 0) t.1 ∙ rw t.0

  pub draw_err : (e : Refusal) → r ≡ Err e → reply 0 0 (number e) 0 ≡ draw_reply (draw_answer b ram picture)
  unfolding draw_answer draw_reply
  draw_err e d =
      let n = picture_refusal b (length ram) (length picture) in
      let t = err_number n _ e r (picture_known b (length ram) (length picture)) c d in
      ap (λ (k : ℕ). reply 0 0 k 0) t.1 ∙ rw (ne_eqb n 0 t.0)

-- ---- refresh

module _ (b : Board) (ram picture : List ℕ) (r : Result Refreshed Refusal) (c : r ≡ refresh_result (refresh_answer b ram picture)) where
  pub refresh_ok : (d : Refreshed) → r ≡ Ok d
      → (d.board ≡ (refresh_answer b ram picture).board) × (reply d.count (8 * bool_byte d.floating) 0 0 ≡ refresh_reply (refresh_answer b ram picture))
  unfolding refresh_reply
  refresh_ok d e =
      let t = told_ok _ _ d r c e in
      (ap (λ (x : Refreshed). x.board) t.1, ap (λ (x : Refreshed). reply x.count (8 * bool_byte x.floating) 0 0) t.1 ∙ rw t.0)

  refused : (t : Bool) → eqb (picture_refusal b (length ram) (length picture)) 0 ≡ t → (refresh_answer b ram picture).refusal ≡ cond t 0 (picture_refusal b (length ram) (length picture))
  unfolding refresh_answer
  refused true f = rw f
  refused false f = rw f

  pub refresh_err : (e : Refusal) → r ≡ Err e
      → (b ≡ (refresh_answer b ram picture).board) × (reply 0 0 (number e) 0 ≡ refresh_reply (refresh_answer b ram picture))
  unfolding refresh_answer refresh_reply Known
  refresh_err e d = go (eqb n 0) refl
    where
      n : ℕ
      n = picture_refusal b (length ram) (length picture)

      go : (t : Bool) → eqb n 0 ≡ t → (b ≡ (refresh_answer b ram picture).board) × (reply 0 0 (number e) 0 ≡ refresh_reply (refresh_answer b ram picture))
      go true f = absurd ((told_err _ _ e r c d).0 (refused true f))
      go false f =
          let k = told_err _ _ e r c d in
          let z : named (refresh_answer b ram picture).refusal ≡ named n = ap named (refused false f) in
          rw f (refl, ap (λ (x : Refusal). reply 0 0 (number x) 0) (k.1 ∙ z) ∙ ap (λ (x : ℕ). reply 0 0 x 0) (picture_known b (length ram) (length picture) (eqb-false n 0 f)))

-- ---- the next dirty line

module _ (b : Board) where
  past : (m : ℕ) → leb m 255 ≡ false → next_answer b m ≡ record { line = None; refusal = first_refusal (record_refusal b ∷ 3 ∷ []) }
  unfolding next_answer next_refusal
  past m e = rw (e, three_refused (record_refusal b))

  -- a number over 255 is refused as 256 is
  pub at_most : (n : ℕ) → next_answer b (min n 256) ≡ next_answer b n
  at_most n = go (leb n 255) refl
    where
      go : (t : Bool) → leb n 255 ≡ t → next_answer b (min n 256) ≡ next_answer b n
      go true e = let l = leb-true n 255 e in let m : min n 256 ≡ n = omega arith in rw m
      go false e =
          let l = leb-false n 255 e in
          let m : min n 256 ≡ 256 = omega arith in
          ap (next_answer b) m ∙ past 256 refl ∙ sym (past n e)

module _ (b : Board) (n m : ℕ) (s : m ≡ min n 256) (r : Result (Option ℕ) Refusal) (c : r ≡ next_result (next_answer b m)) where
  same : next_answer b m ≡ next_answer b n
  same = ap (next_answer b) s ∙ at_most b n

  pub next_some : (l : ℕ) (o : Option ℕ) → r ≡ Ok o → o ≡ Some l → reply l 16 0 0 ≡ next_reply (next_answer b n)
  unfolding next_reply line_reply
  next_some l o e f =
      let t = told_ok _ _ o r c e in
      ap (λ (x : Option ℕ). line_reply x 0) (sym f ∙ t.1)
      ∙ ap (λ (x : ℕ). line_reply (next_answer b m).line x) (sym t.0)
      ∙ ap next_reply same

  pub next_none : (o : Option ℕ) → r ≡ Ok o → o ≡ None → reply 0 0 0 0 ≡ next_reply (next_answer b n)
  unfolding next_reply line_reply
  next_none o e f =
      let t = told_ok _ _ o r c e in
      ap (λ (x : Option ℕ). line_reply x 0) (sym f ∙ t.1)
      ∙ ap (λ (x : ℕ). line_reply (next_answer b m).line x) (sym t.0)
      ∙ ap next_reply same

  pub next_err : (e : Refusal) → r ≡ Err e → reply 0 0 (number e) 0 ≡ next_reply (next_answer b n)
  unfolding next_answer next_reply line_reply
  next_err e d =
      let t = err_number (next_refusal b m) _ e r (next_known b m) c d in
      let a : reply 0 0 (next_refusal b m) 0 ≡ next_reply (next_answer b m) = rw (ne_eqb (next_refusal b m) 0 t.0) in
      ap (λ (k : ℕ). reply 0 0 k 0) t.1 ∙ a ∙ ap next_reply same

-- ---- power-on

module _ (sizes : Sizes) (rate : ℕ) (paging : Paging) (table top : ℕ) (r : Result Board Refusal)
    (c : r ≡ answered (powered_on sizes rate paging table top).refusal (powered_on sizes rate paging table top).board) where
  pub power_on_ok : (b : Board) → r ≡ Ok b
      → (b ≡ (powered_on sizes rate paging table top).board) × (reply 0 0 0 0 ≡ power_on_reply (powered_on sizes rate paging table top))
  unfolding power_on_reply
  power_on_ok b e = let t = told_ok _ _ b r c e in (t.1, rw t.0)

  pub power_on_err : (e : Refusal) → r ≡ Err e
      → (zero_board ≡ (powered_on sizes rate paging table top).board)
      × (reply 0 0 (number e) 0 ≡ power_on_reply (powered_on sizes rate paging table top))
  unfolding power_on_reply powered_on
  power_on_err e d =
      let t = err_number (power_on_refusal sizes rate) _ e r (power_on_known sizes rate) c d in
      (rw (ne_eqb (power_on_refusal sizes rate) 0 t.0), ap (λ (k : ℕ). reply 0 0 k 0) t.1)

-- ---- the first difference

module _ (a b : List ℕ) (r : Result (Option Position) Refusal) (c : r ≡ answered (difference_answer a b).refusal (difference_answer a b).position) where
  pub difference_some : (p : Position) (o : Option Position) → r ≡ Ok o → o ≡ Some p → reply p.line 16 0 p.pixel ≡ difference_reply (difference_answer a b)
  unfolding difference_reply position_reply
  difference_some p o e f =
      let t = told_ok _ _ o r c e in
      ap (λ (x : Option Position). position_reply x 0) (sym f ∙ t.1) ∙ ap (λ (x : ℕ). position_reply (difference_answer a b).position x) (sym t.0)

  pub difference_none : (o : Option Position) → r ≡ Ok o → o ≡ None → reply 0 0 0 0 ≡ difference_reply (difference_answer a b)
  unfolding difference_reply position_reply
  difference_none o e f =
      let t = told_ok _ _ o r c e in
      ap (λ (x : Option Position). position_reply x 0) (sym f ∙ t.1) ∙ ap (λ (x : ℕ). position_reply (difference_answer a b).position x) (sym t.0)

  pub difference_err : (e : Refusal) → r ≡ Err e → reply 0 0 (number e) 0 ≡ difference_reply (difference_answer a b)
  unfolding difference_answer difference_reply position_reply named number
  difference_err e d = go (picture_fits (length a) && picture_fits (length b)) refl
    where
      go : (t : Bool) → (picture_fits (length a) && picture_fits (length b)) ≡ t → reply 0 0 (number e) 0 ≡ difference_reply (difference_answer a b)
      go true f = absurd ((told_err _ _ e r c d).0 (rw f))
      go false f =
          let k : (difference_answer a b).refusal ≡ 2 = rw f in
          ap (λ (x : Refusal). reply 0 0 (number x) 0) (told_err _ _ e r c d).1 ∙ ap (λ (n : ℕ). reply 0 0 (number (named n)) 0) k ∙ rw f
