-- What the answers of draw and refresh are, refused and accepted.
-- Assumes nothing.
use Prim.Native.Nat.{ℕ, ◌≤◌}
use native.Mathlib.Omega.{arith}
use mathlib.Core.Path.{◌≡◌, refl, sym, ◌∙◌, ap}
use mathlib.Core.Bool.{Bool, true, false, cond, ◌&&◌}
use mathlib.Core.List.{List}
use borrow.Author.Tests.{eqb-true, eqb-false, ne_eqb}
use lib.Dec.{eqb, ltb}
use lib.ListN.{length}
use Rattle.std.specs.Prelude.{Result, Ok, Err}
use Rattle.refusal.specs.declared.Refusal.{Refusal}
use Rattle.refusal.specs.declared.Refusal.TheVariants.{BadLength}
use Rattle.refusal.specs.Numbers.{named, answered}
use Rattle.lineset.specs.declared.LineSet.{LineSet}
use Rattle.lineset.specs.Lines.{set_of, member, count_of, shown_count, is_shown}
use Rattle.paging.specs.Maps.{ram_fits}
use Rattle.paging.proofs.Maps.{total_at_least, ram_length}
use Rattle.scanline.specs.Drawing.{picture_fits}
use Rattle.board.specs.declared.record.Board.{Board}
use Rattle.board.specs.Record.{good, record_refusal, view_of, with_dirty}
use Rattle.board.proofs.Good.{good_parts}
use Rattle.board.proofs.Refusals.{first_two, first_none, not_refused, record_good}
use Rattle.picture.specs.Pictures.{painted, lent_refusal, picture_length_refusal, picture_refusal, is_floating, draw_answer, draw_picture, refresh_answer, refresh_picture, draw_result, refresh_result}

-- what the RAM of a record that is not refused has
pub enough : (b : Board) (ram : ℕ) → lent_refusal b ram ≡ 0 → (good b ≡ true) × (131072 ≤ ram)
unfolding lent_refusal
enough b ram z =
    let n = first_none (record_refusal b) _ z in
    let g = record_good b n.0 in
    let l = total_at_least b.sizes (good_parts b g).sizes in
    let f = ram_length b.sizes ram (not_refused (ram_fits b.sizes ram) 2 (λ (y : ◌≡◌ {A = ℕ} 2 0). omega arith) n.1) in
    (g, omega arith)

-- the picture's length is looked at last
lent_first : (b : Board) (ram picture : ℕ)
    → picture_refusal b ram picture ≡ cond (eqb (lent_refusal b ram) 0) (cond (picture_fits picture) 0 2) (lent_refusal b ram)
unfolding picture_refusal picture_length_refusal lent_refusal
lent_first b ram picture =
    rw
    (first_two (record_refusal b) (cond (ram_fits b.sizes ram && picture_fits picture) 0 2), first_two (record_refusal b) (cond (ram_fits b.sizes ram) 0 2))
    (go (eqb (record_refusal b) 0) refl (ram_fits b.sizes ram))
  where
    go : (t : Bool) → eqb (record_refusal b) 0 ≡ t → (f : Bool)
        → cond t (cond (f && picture_fits picture) 0 2) (record_refusal b)
        ≡ cond (eqb (cond t (cond f 0 2) (record_refusal b)) 0) (cond (picture_fits picture) 0 2) (cond t (cond f 0 2) (record_refusal b))
    go true e true = refl
    go true e false = refl
    go false e f = rw e

-- a call that is accepted: the record is good, and the lengths are right
pub record Accepted (b : Board) (ram picture : ℕ) : Type 0 where
  pub is_good : good b ≡ true
  pub enough : 131072 ≤ ram
  pub size : picture ≡ 23040

pub accepted : (b : Board) (ram picture r : ℕ) → r ≡ picture_refusal b ram picture → r ≡ 0 → Accepted b ram picture
unfolding picture_fits
accepted b ram picture r e z = go (eqb (lent_refusal b ram) 0) refl (sym (lent_first b ram picture) ∙ sym e ∙ z)
  where
    go : (t : Bool) → eqb (lent_refusal b ram) 0 ≡ t → cond t (cond (picture_fits picture) 0 2) (lent_refusal b ram) ≡ 0 → Accepted b ram picture
    go true f h =
        let w = enough b ram (eqb-true (lent_refusal b ram) 0 f) in
        let p = not_refused (picture_fits picture) 2 (λ (y : ◌≡◌ {A = ℕ} 2 0). omega arith) h in
        record { is_good = w.0; enough = w.1; size = eqb-true picture 23040 p }
    go false f h = absurd (eqb-false (lent_refusal b ram) 0 f h)

-- ---- what a result tells of its refusal number

pub told_ok : {A : Type 0} (n : ℕ) (x y : A) (r : Result A Refusal) → r ≡ answered n x → r ≡ Ok y → (n ≡ 0) × (y ≡ x)
unfolding answered
told_ok {A} n x y r e d = go (eqb n 0) refl (sym d ∙ e)
  where
    go : (t : Bool) → eqb n 0 ≡ t → ◌≡◌ {A = Result A Refusal} (Ok y) (cond t (Ok x) (Err (named n))) → (n ≡ 0) × (y ≡ x)
    go true f h = (eqb-true n 0 f, cc)
    go false f h = absurd (cc)

pub told_err : {A : Type 0} (n : ℕ) (x : A) (q : Refusal) (r : Result A Refusal) → r ≡ answered n x → r ≡ Err q → (n ≡ 0 → ⊥) × (q ≡ named n)
unfolding answered
told_err {A} n x q r e d = go (eqb n 0) refl (sym d ∙ e)
  where
    go : (t : Bool) → eqb n 0 ≡ t → ◌≡◌ {A = Result A Refusal} (Err q) (cond t (Ok x) (Err (named n))) → (n ≡ 0 → ⊥) × (q ≡ named n)
    go true f h = absurd (cc)
    go false f h = (eqb-false n 0 f, cc)

-- refused: the picture and the record stay
module _ (b : Board) (ram picture : List ℕ) (r : ℕ) (e : r ≡ picture_refusal b (length ram) (length picture)) where
  pub draw_refused : (r ≡ 0 → ⊥) → (record { floating = false; refusal = r } ≡ draw_answer b ram picture) × (picture ≡ draw_picture b ram picture)
  unfolding draw_answer draw_picture
  draw_refused ne = rw (← e, ne_eqb r 0 ne) (refl, refl)

  pub refresh_refused : (r ≡ 0 → ⊥)
      → (record { board = b; count = 0; floating = false; refusal = r } ≡ refresh_answer b ram picture) × (picture ≡ refresh_picture b ram picture)
  unfolding refresh_answer refresh_picture
  refresh_refused ne = rw (← e, ne_eqb r 0 ne) (refl, refl)

-- the same as the code has it
module _ (b : Board) (ram picture : List ℕ) (q : Refusal) (ne : picture_refusal b (length ram) (length picture) ≡ 0 → ⊥)
    (e : q ≡ named (picture_refusal b (length ram) (length picture))) where
  pub draw_err : Err q ≡ draw_result (draw_answer b ram picture)
  unfolding draw_answer answered
  draw_err = rw (ne_eqb (picture_refusal b (length ram) (length picture)) 0 ne, e)

  pub refresh_err : Err q ≡ refresh_result (refresh_answer b ram picture)
  unfolding refresh_answer answered
  refresh_err = rw (ne_eqb (picture_refusal b (length ram) (length picture)) 0 ne) (rw (ne_eqb (picture_refusal b (length ram) (length picture)) 0 ne, e))

module _ (b : Board) (ram picture : List ℕ) (ne : picture_refusal b (length ram) (length picture) ≡ 0 → ⊥) where
  pub draw_stays : picture ≡ draw_picture b ram picture
  unfolding draw_picture
  draw_stays = rw (ne_eqb (picture_refusal b (length ram) (length picture)) 0 ne)

  pub draw_none : (draw_answer b ram picture).floating ≡ false
  unfolding draw_answer
  draw_none = rw (ne_eqb (picture_refusal b (length ram) (length picture)) 0 ne)

  pub refresh_given : (refresh_answer b ram picture).board ≡ b
  unfolding refresh_answer
  refresh_given = rw (ne_eqb (picture_refusal b (length ram) (length picture)) 0 ne)

  pub refresh_none : ((refresh_answer b ram picture).count ≡ 0) × ((refresh_answer b ram picture).floating ≡ false)
  unfolding refresh_answer
  refresh_none = rw (ne_eqb (picture_refusal b (length ram) (length picture)) 0 ne) (refl, refl)

  pub refresh_stays : picture ≡ refresh_picture b ram picture
  unfolding refresh_picture
  refresh_stays = rw (ne_eqb (picture_refusal b (length ram) (length picture)) 0 ne)

-- accepted
module _ (b : Board) (ram picture : List ℕ) (z : picture_refusal b (length ram) (length picture) ≡ 0) where
  pub draw_accepted : (f : Bool) → f ≡ is_floating b → Ok (record { floating = f }) ≡ draw_result (draw_answer b ram picture)
  unfolding draw_answer answered
  draw_accepted f e = rw (z, e)

  pub draw_drawn : (n : ℕ) (lines out : List ℕ) → lines ≡ picture → n ≡ shown_count b.rate → out ≡ painted (λ (L : ℕ). ltb L n) (view_of b ram) lines
      → out ≡ draw_picture b ram picture
  unfolding draw_picture is_shown
  draw_drawn n lines out e s p = rw z (p ∙ rw (e, s))

  pub refresh_accepted : (d : LineSet) (n : ℕ) (f : Bool) → f ≡ is_floating b → d ≡ set_of (λ (L : ℕ). false) → n ≡ count_of (member b.dirty) 0 256
      → Ok (record { board = with_dirty b d; count = n; floating = f }) ≡ refresh_result (refresh_answer b ram picture)
  unfolding refresh_answer answered
  refresh_accepted d n f e g h = rw (z, e, g, h)

  pub refresh_drawn : (lines out : List ℕ) → lines ≡ picture → out ≡ painted (member b.dirty) (view_of b ram) lines → out ≡ refresh_picture b ram picture
  unfolding refresh_picture
  refresh_drawn lines out e p = rw z (p ∙ rw e)

-- ---- the refusal of a picture, by that of record and RAM
module _ (b : Board) (ram picture : ℕ) (r : Result Unit Refusal) (e : r ≡ answered (lent_refusal b ram) tt) where
  pub lent_err : (q : Refusal) → r ≡ Err q → (picture_refusal b ram picture ≡ 0 → ⊥) × (q ≡ named (picture_refusal b ram picture))
  lent_err q d =
      let t = told_err (lent_refusal b ram) tt q r e d in
      let s : picture_refusal b ram picture ≡ lent_refusal b ram = lent_first b ram picture ∙ rw (ne_eqb (lent_refusal b ram) 0 t.0) in
      (λ (z : picture_refusal b ram picture ≡ 0). t.0 (sym s ∙ z), t.1 ∙ ap named (sym s))

  lent_ok : r ≡ Ok tt → picture_refusal b ram picture ≡ cond (picture_fits picture) 0 2
  lent_ok d = lent_first b ram picture ∙ rw (told_ok (lent_refusal b ram) tt tt r e d).0

  pub lent_enough : r ≡ Ok tt → 131072 ≤ ram
  lent_enough d = (enough b ram (told_ok (lent_refusal b ram) tt tt r e d).0).1

  pub size_wrong : r ≡ Ok tt → (picture ≡ 23040 → ⊥) → (picture_refusal b ram picture ≡ 0 → ⊥) × (BadLength ≡ named (picture_refusal b ram picture))
  unfolding picture_fits named
  size_wrong d ne =
      let s : picture_refusal b ram picture ≡ 2 = lent_ok d ∙ rw (ne_eqb picture 23040 ne) in
      (λ (z : picture_refusal b ram picture ≡ 0). omega arith, rw s)

  pub size_right : r ≡ Ok tt → picture ≡ 23040 → picture_refusal b ram picture ≡ 0
  unfolding picture_fits
  size_right d s = lent_ok d ∙ rw s

-- what holds after an accepted refresh and of what a refused one leaves holds after any refresh
pub after_refresh : (b : Board) (ram picture : List ℕ) (P : Board → List ℕ → Type 0)
    → (picture_refusal b (length ram) (length picture) ≡ 0 → P (with_dirty b (set_of (λ (L : ℕ). false))) (painted (member b.dirty) (view_of b ram) picture))
    → ((picture_refusal b (length ram) (length picture) ≡ 0 → ⊥) → P b picture)
    → P (refresh_answer b ram picture).board (refresh_picture b ram picture)
unfolding refresh_answer refresh_picture
after_refresh b ram picture P accepts refuses = go (eqb (picture_refusal b (length ram) (length picture)) 0) refl
  where
    go : (t : Bool) → eqb (picture_refusal b (length ram) (length picture)) 0 ≡ t → P (refresh_answer b ram picture).board (refresh_picture b ram picture)
    go true f = let z = eqb-true (picture_refusal b (length ram) (length picture)) 0 f in rw z (accepts z)
    go false f =
        let ne = eqb-false (picture_refusal b (length ram) (length picture)) 0 f in
        rw (ne_eqb (picture_refusal b (length ram) (length picture)) 0 ne) (refuses ne)
