-- A refresh keeps what holds at each point of a run, and returns and leaves what it should.
-- Assumes nothing.
use Prim.Native.Nat.{ℕ, ◌+◌, ◌*◌, ◌/◌, ◌≤◌, ◌<◌}
use native.Mathlib.Omega.{arith}
use mathlib.Core.Path.{◌≡◌, refl, sym, ◌∙◌, ap, fun_ext}
use mathlib.Core.Bool.{Bool, true, false, cond, true≢false}
use mathlib.Core.List.{List}
use borrow.Author.Tests.{eqb-true, ne_eqb, ltb-true, ltb-false}
use lib.Dec.{eqb, ltb}
use lib.ListN.{get_or, length, get_or-eq_default}
use Rattle.lineset.specs.Lines.{set_of, member, count_of, shown_count}
use Rattle.lineset.proofs.Sets.{words_set}
use Rattle.lineset.proofs.Shown.{shown_at_most, not_shown, none_member, inside_made, inside_not}
use Rattle.scanline.specs.Drawing.{drawn}
use Rattle.board.specs.declared.record.Board.{Board}
use Rattle.board.specs.Record.{good, record_refusal, good_flags, view_of, with_dirty}
use Rattle.board.proofs.Good.{good_parts, parts_good}
use Rattle.board.proofs.Refusals.{first_second, good_record}
use Rattle.picture.specs.Pictures.{painted, picture_length_refusal, picture_refusal, refresh_answer, refresh_picture}
use Rattle.picture.proofs.Answers.{accepted, after_refresh}
use Rattle.picture.proofs.Painting.{painted_length, painted_at, painted_byte}
use Rattle.runs.specs.Reference.{refresh_refusal}
use Rattle.runs.specs.Reference as reference
use Rattle.runs.specs.Events.{refresh, Machine, next, RefreshReturns, mirror}
use Rattle.runs.proofs.Invariant.{Invariant}

-- ---- the record that a refresh returns

cleared_good : (b : Board) → good b ≡ true → good (with_dirty b (set_of (λ (L : ℕ). false))) ≡ true
cleared_good b g =
    let p = good_parts b g in
    parts_good (with_dirty b (set_of (λ (L : ℕ). false)))
    (record {
      sizes = p.sizes;
      rate = p.rate;
      clock = p.clock;
      boot = p.boot;
      disc = p.disc;
      flags = unfold good_flags in p.flags;
      dirty = inside_made (set_of (λ (L : ℕ). false)) b.rate (λ L l e. absurd (true≢false (sym e ∙ none_member L)));
    })

pub refresh_good : (b : Board) (ram picture : List ℕ) → good b ≡ true → good (refresh_answer b ram picture).board ≡ true
refresh_good b ram picture g = after_refresh b ram picture (λ (c : Board) (p : List ℕ). good c ≡ true) (λ e. cleared_good b g) (λ ne. g)

pub refresh_clock : (b : Board) (ram picture : List ℕ) → (refresh_answer b ram picture).board.clock ≡ b.clock
refresh_clock b ram picture = after_refresh b ram picture (λ (c : Board) (p : List ℕ). c.clock ≡ b.clock) (λ e. refl) (λ ne. refl)

-- ---- its refusal, and the reference after it

pub refresh_refusal_lem : (b : Board) (ram : List ℕ) (n : ℕ) → good b ≡ true → picture_refusal b (length ram) n ≡ refresh_refusal (mirror b ram) n
unfolding picture_refusal refresh_refusal
refresh_refusal_lem b ram n g = first_second (record_refusal b) (picture_length_refusal b.sizes (length ram) n) (good_record b g)

pub mirror_refresh : (b : Board) (ram picture : List ℕ) → good b ≡ true
    → reference.refresh (mirror b ram) (length picture) ≡ mirror (refresh_answer b ram picture).board ram
unfolding reference.refresh
mirror_refresh b ram picture g =
    after_refresh b ram picture (λ (c : Board) (p : List ℕ). reference.refresh (mirror b ram) (length picture) ≡ mirror c ram)
    (λ e.
    rw (sym same ∙ e)
    (λ i. record {
      sizes = b.sizes;
      rate = b.rate;
      paging = b.paging;
      video = b.video;
      ram = ram;
      dirty = fun_ext {f = λ (L : ℕ). false} {g = member (set_of (λ (L : ℕ). false))} (λ (L : ℕ). sym (none_member L)) i;
    }))
    (λ ne. rw (ne_eqb (refresh_refusal (mirror b ram) (length picture)) 0 (λ (z : refresh_refusal (mirror b ram) (length picture) ≡ 0). ne (same ∙ z))))
  where
    same : picture_refusal b (length ram) (length picture) ≡ refresh_refusal (mirror b ram) (length picture)
    same = refresh_refusal_lem b ram (length picture) g

-- ---- the picture

module _ (alone : Bool) (first : List ℕ) (m : Machine) (h : Invariant alone first m) where
  -- the picture with the dirty lines drawn
  abbrev drawn_over : List ℕ
  drawn_over = painted (member m.board.dirty) (view_of m.board m.ram) m.picture

  shown_drawn : alone ≡ true → length m.picture ≡ 23040 → (L : ℕ) → L < shown_count m.board.rate → (i : ℕ) → i < 90
      → get_or drawn_over (90 * L + i) 0 ≡ drawn (view_of m.board m.ram) L i
  shown_drawn u z L l i k =
      let most = shown_at_most m.board.rate in
      painted_byte (view_of m.board m.ram) m.picture (member m.board.dirty) L i k (omega arith) ∙ go (member m.board.dirty L) refl
    where
      go : (t : Bool) → member m.board.dirty L ≡ t
          → cond t (drawn (view_of m.board m.ram) L i) (get_or m.picture (90 * L + i) 0) ≡ drawn (view_of m.board m.ram) L i
      go true f = refl
      go false f = h.fresh u z L l f i k

  outside_kept : (k : ℕ) → 90 * shown_count m.board.rate ≤ k → get_or drawn_over k 0 ≡ get_or m.picture k 0
  outside_kept k l = go (ltb k (length m.picture)) refl
    where
      go : (t : Bool) → ltb k (length m.picture) ≡ t → get_or drawn_over k 0 ≡ get_or m.picture k 0
      go true f =
          painted_at (view_of m.board m.ram) m.picture (member m.board.dirty) k (ltb-true k (length m.picture) f)
          ∙ rw (inside_not m.board.dirty h.words m.board.rate (good_parts m.board h.good_board).dirty (k / 90) (not_shown m.board.rate (k / 90) (omega arith)))
      go false f =
          let n = ltb-false k (length m.picture) f in
          let len = painted_length (view_of m.board m.ram) m.picture (member m.board.dirty) in
          get_or-eq_default drawn_over 0 {n = k} (omega arith) ∙ sym (get_or-eq_default m.picture 0 {n = k} n)

  pub refresh_kept : Invariant alone first (next m refresh)
  refresh_kept =
      after_refresh m.board m.ram m.picture (λ (c : Board) (p : List ℕ). Invariant alone first (record { board = c; ram = m.ram; picture = p }))
      (λ e.
      let z = (accepted m.board (length m.ram) (length m.picture) _ refl e).size in
      record {
        good_board = cleared_good m.board h.good_board;
        words = words_set _;
        size = λ u. painted_length (view_of m.board m.ram) m.picture (member m.board.dirty) ∙ h.size u;
        outside = λ u k l. outside_kept k l ∙ h.outside u k l;
        fresh = λ u y L l d i k. shown_drawn u z L l i k;
      })
      (λ ne. h)

  -- ---- what is returned and left

  same : picture_refusal m.board (length m.ram) (length m.picture) ≡ refresh_refusal (mirror m.board m.ram) (length m.picture)
  same = refresh_refusal_lem m.board m.ram (length m.picture) h.good_board

  returned : (t : Bool) → eqb (refresh_refusal (mirror m.board m.ram) (length m.picture)) 0 ≡ t
      → ((refresh_answer m.board m.ram m.picture).refusal ≡ refresh_refusal (mirror m.board m.ram) (length m.picture))
      × ((refresh_answer m.board m.ram m.picture).count ≡ cond t (count_of (member m.board.dirty) 0 256) 0)
  unfolding refresh_answer
  returned true e = (rw (same, e) (sym (eqb-true _ 0 e)), rw (same, e))
  returned false e = (rw (same, e), rw (same, e))

  left : refresh_picture m.board m.ram m.picture ≡ cond (eqb (refresh_refusal (mirror m.board m.ram) (length m.picture)) 0) drawn_over m.picture
  unfolding refresh_picture
  left = rw same

  accepted_picture : refresh_refusal (mirror m.board m.ram) (length m.picture) ≡ 0 → refresh_picture m.board m.ram m.picture ≡ drawn_over
  accepted_picture e = left ∙ rw e

  pub all_shown : alone ≡ true → refresh_refusal (mirror m.board m.ram) (length m.picture) ≡ 0 → (L : ℕ) → L < shown_count m.board.rate → (i : ℕ) → i < 90
      → get_or (refresh_picture m.board m.ram m.picture) (90 * L + i) 0 ≡ drawn (view_of m.board m.ram) L i
  all_shown u e L l i k =
      let z = (accepted m.board (length m.ram) (length m.picture) _ refl (same ∙ e)).size in
      ap (λ (p : List ℕ). get_or p (90 * L + i) 0) (accepted_picture e) ∙ shown_drawn u z L l i k

  pub outside_first : alone ≡ true → refresh_refusal (mirror m.board m.ram) (length m.picture) ≡ 0 → (k : ℕ) → 90 * shown_count m.board.rate ≤ k
      → get_or (refresh_picture m.board m.ram m.picture) k 0 ≡ get_or first k 0
  outside_first u e k l = ap (λ (p : List ℕ). get_or p k 0) (accepted_picture e) ∙ outside_kept k l ∙ h.outside u k l

  pub refresh_returns : RefreshReturns alone m (mirror m.board m.ram)
  refresh_returns =
      let r = returned (eqb (refresh_refusal (mirror m.board m.ram) (length m.picture)) 0) refl in
      record { refusal = r.0; count = r.1; written = left; shown = all_shown }
