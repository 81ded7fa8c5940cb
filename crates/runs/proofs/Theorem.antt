-- The theorem about whole runs: every claim of specs/Events.antt holds of every list of events from every accepted power-on. Each law is
-- about one event; the list follows.
-- Assumes nothing.
use Prim.Native.Nat.{ℕ, ◌+◌, ◌*◌, ◌/◌, ◌%◌, ◌<◌}
use native.Mathlib.Omega.{arith}
use mathlib.Core.Path.{◌≡◌, refl, sym, ◌∙◌, ap, subst, fun_ext}
use mathlib.Core.Bool.{Bool, true, false, cond, true≢false}
use mathlib.Core.List.{List, [], ◌∷◌}
use lib.ListN.{get_or, length}
use lib.Seq.{ext_get_or}
use Rattle.lineset.specs.Lines.{member, is_shown, shown_count, shown_set}
use Rattle.lineset.proofs.Sets.{Words}
use Rattle.lineset.proofs.Shown.{is_shown_lem, shown_at_most, shown_line, unshown_line, shown_member}
use Rattle.paging.specs.declared.Sizes.{Sizes}
use Rattle.paging.specs.declared.Paging.{Paging}
use Rattle.scanline.specs.Drawing.{drawn}
use Rattle.board.specs.declared.record.Board.{Board}
use Rattle.board.specs.Record.{view_of}
use Rattle.board_power.specs.Power.{fresh_board, power_on_refusal, powered_on}
use Rattle.board_power.proofs.Power.{power_on_board, power_on_good, power_on_words}
use Rattle.picture.specs.Pictures.{painted, picture_refusal, draw_answer, draw_picture, refresh_picture}
use Rattle.picture.proofs.Answers.{Accepted, accepted}
use Rattle.picture.proofs.Painting.{cell, painted_length, painted_at, painted_byte}
use Rattle.runs.specs.Reference.{Reference, refresh_refusal}
use Rattle.runs.specs.Reference as reference
use Rattle.runs.specs.Events.{Event, step, refresh, step_on_other, refresh_on_other, overwritten, Machine, next, fed, undisturbed, Lent, Returns, Claims, WholeRuns, mirror, resumed, ResumedRuns, Redrawn, Pictures, DrawnWhole}
use Rattle.runs.proofs.Invariant.{Invariant, agrees, mirror_step, step_kept, step_returns}
use Rattle.runs.proofs.OtherMemory.{step_other, step_other_returns, refresh_other, refresh_other_returns}
use Rattle.runs.proofs.Refresh.{refresh_refusal_lem, mirror_refresh, refresh_kept, all_shown, outside_first, refresh_returns}

-- ---- one event

module _ (alone : Bool) (first : List ℕ) (m : Machine) (h : Invariant alone first m) where
  -- what is lent elsewhere leaves the record
  elsewhere : (P : Machine → Type 0) (b : Board) → b ≡ m.board → P m → P (record { board = b; ram = m.ram; picture = m.picture })
  elsewhere P b e p = subst (λ (c : Board). P (record { board = c; ram = m.ram; picture = m.picture })) (sym e) p

  kept : (e : Event) → Lent m.board.sizes e → Invariant (undisturbed alone e) first (next m e)
  kept (step s boot) l = step_kept alone first m s boot h
  kept refresh l = refresh_kept alone first m h
  kept (step_on_other s ram boot) l = elsewhere (Invariant alone first) _ (step_other m s ram boot h.good_board l) h
  kept (refresh_on_other ram picture) l = elsewhere (Invariant alone first) _ (refresh_other m ram picture h.good_board l) h
  kept (overwritten picture) l = record {
    good_board = h.good_board;
    words = h.words;
    size = λ u. absurd (true≢false (sym u));
    outside = λ u. absurd (true≢false (sym u));
    fresh = λ u. absurd (true≢false (sym u));
  }

  mirrored : (e : Event) → Lent m.board.sizes e → fed (mirror m.board m.ram) (length m.picture) e ≡ mirror (next m e).board (next m e).ram
  mirrored (step s boot) l = mirror_step m.board m.ram boot s h.good_board h.words
  mirrored refresh l = mirror_refresh m.board m.ram m.picture h.good_board
  mirrored (step_on_other s ram boot) l = ap (λ (c : Board). mirror c m.ram) (sym (step_other m s ram boot h.good_board l))
  mirrored (refresh_on_other ram picture) l = ap (λ (c : Board). mirror c m.ram) (sym (refresh_other m ram picture h.good_board l))
  mirrored (overwritten picture) l = refl

  returned : (e : Event) → Lent m.board.sizes e → Returns alone m (mirror m.board m.ram) e
  returned (step s boot) l = step_returns alone first m s boot h
  returned refresh l = refresh_returns alone first m h
  returned (step_on_other s ram boot) l = step_other_returns m s ram boot h.good_board l alone (mirror m.board m.ram)
  returned (refresh_on_other ram picture) l = refresh_other_returns m ram picture h.good_board l alone (mirror m.board m.ram)
  returned (overwritten picture) l = tt

-- ---- a list

claims : (events : List Event) (alone : Bool) (first : List ℕ) (m : Machine) → Invariant alone first m → Claims alone first m (mirror m.board m.ram) events
claims [] alone first m h = agrees alone first m h
claims (e ∷ es) alone first m h = (
  agrees alone first m h,
  λ (l : Lent m.board.sizes e). (
    returned alone first m h e l,
    subst (λ (r : Reference). Claims (undisturbed alone e) first (next m e) r es) (sym (mirrored alone first m h e l))
        (claims es (undisturbed alone e) first (next m e) (kept alone first m h e l)),
  ),
)

-- ---- the start: every shown line is dirty, and the reference is the mirror

module _ (sizes : Sizes) (rate : ℕ) (paging : Paging) (table top : ℕ) (ram picture : List ℕ) (e : power_on_refusal sizes rate ≡ 0) where
  at_first : Invariant true picture (record { board = fresh_board sizes rate paging table top; ram = ram; picture = picture })
  unfolding fresh_board
  at_first = record {
    good_board = power_on_good sizes rate paging table top e;
    words = power_on_words sizes rate paging table top;
    size = λ u. refl;
    outside = λ u k l. refl;
    fresh = λ u z L l d i k. absurd (true≢false (sym (shown_member rate L ∙ is_shown_lem rate L l) ∙ d));
  }

  mirror_first : reference.start sizes rate paging table top ram ≡ mirror (fresh_board sizes rate paging table top) ram
  unfolding fresh_board
  mirror_first =
      λ i. record {
        sizes = sizes;
        rate = rate;
        paging = paging;
        video = record { table = table; top = top; control = 0 };
        ram = ram;
        dirty = fun_ext {f = is_shown rate} {g = member (shown_set rate)} (λ (L : ℕ). sym (shown_member rate L)) i;
      }

-- Demand 3: one theorem about every list of events from every accepted power-on
pub whole_runs : WholeRuns
whole_runs sizes rate paging table top ram picture events = (
  unfold powered_on in refl,
  λ (e : power_on_refusal sizes rate ≡ 0).
      subst
      (λ (b : Board). Claims true picture (record { board = b; ram = ram; picture = picture }) (reference.start sizes rate paging table top ram) events)
      (sym (power_on_board sizes rate paging table top e))
      (subst
      (λ (r : Reference). Claims true picture (record { board = fresh_board sizes rate paging table top; ram = ram; picture = picture }) r events)
      (sym (mirror_first sizes rate paging table top ram picture e))
      (claims events true picture (record { board = fresh_board sizes rate paging table top; ram = ram; picture = picture })
      (at_first sizes rate paging table top ram picture e))),
)

-- ---- going on with a record that was kept: a draw has made every shown line as it is drawn

module _ (b : Board) (ram picture : List ℕ) (w : Words b.dirty) (e : picture_refusal b (length ram) (length picture) ≡ 0) where
  ready : Accepted b (length ram) (length picture)
  ready = accepted b (length ram) (length picture) _ refl e

  drawn_over_lem : draw_picture b ram picture ≡ painted (is_shown b.rate) (view_of b ram) picture
  unfolding draw_picture
  drawn_over_lem = rw e

  shown_drawn : (L : ℕ) → L < shown_count b.rate → (i : ℕ) → i < 90 → get_or (draw_picture b ram picture) (90 * L + i) 0 ≡ drawn (view_of b ram) L i
  shown_drawn L l i k =
      let most = shown_at_most b.rate in
      let z = ready.size in
      ap (λ (p : List ℕ). get_or p (90 * L + i) 0) drawn_over_lem
      ∙ painted_byte (view_of b ram) picture (is_shown b.rate) L i k (omega arith)
      ∙ rw (is_shown_lem b.rate L l)

  at_draw : Invariant true (resumed b ram picture).picture (resumed b ram picture)
  at_draw = record {
    good_board = ready.is_good;
    words = w;
    size = λ u. refl;
    outside = λ u k l. refl;
    fresh = λ u z L l d i k. shown_drawn L l i k;
  }

pub resumed_runs : ResumedRuns
unfolding draw_answer
resumed_runs b ram picture events w e = claims events true (resumed b ram picture).picture (resumed b ram picture) (at_draw b ram picture w e)

-- ---- the picture whole

module _ (first : List ℕ) (m : Machine) (h : Invariant true first m) (e : refresh_refusal (mirror m.board m.ram) (length m.picture) ≡ 0) where
  drawn_first : draw_picture m.board m.ram first ≡ painted (is_shown m.board.rate) (view_of m.board m.ram) first
  unfolding draw_picture
  drawn_first = rw (← h.size refl, refresh_refusal_lem m.board m.ram (length m.picture) h.good_board, e)

  byte : (k : ℕ) → k < length first → get_or (refresh_picture m.board m.ram m.picture) k 0 ≡ get_or (draw_picture m.board m.ram first) k 0
  byte k l =
      go (is_shown m.board.rate (k / 90)) refl
      ∙ sym (ap (λ (p : List ℕ). get_or p k 0) drawn_first ∙ painted_at (view_of m.board m.ram) first (is_shown m.board.rate) k l)
    where
      go : (t : Bool) → is_shown m.board.rate (k / 90) ≡ t
          → get_or (refresh_picture m.board m.ram m.picture) k 0 ≡ cond t (cell (view_of m.board m.ram) k) (get_or first k 0)
      go true f =
          let n : k ≡ 90 * (k / 90) + k % 90 = omega arith in
          ap (λ (j : ℕ). get_or (refresh_picture m.board m.ram m.picture) j 0) n
          ∙ all_shown true first m h refl e (k / 90) (shown_line m.board.rate (k / 90) f) (k % 90) (omega arith)
      go false f = let n = unshown_line m.board.rate (k / 90) f in outside_first true first m h refl e k (omega arith)

  redrawn : refresh_picture m.board m.ram m.picture ≡ draw_picture m.board m.ram first
  redrawn =
      let a : length (refresh_picture m.board m.ram m.picture) ≡ length first = (refresh_kept true first m h).size refl in
      let b : length (draw_picture m.board m.ram first) ≡ length first =
      ap length drawn_first ∙ painted_length (view_of m.board m.ram) first (is_shown m.board.rate) in
      ext_get_or 0 (refresh_picture m.board m.ram m.picture) (draw_picture m.board m.ram first) (a ∙ sym b) (λ k l. byte k (omega arith))

redrawn_event : (alone : Bool) (first : List ℕ) (m : Machine) → Invariant alone first m → (e : Event) → Redrawn alone first m e
redrawn_event alone first m h (step s boot) = tt
redrawn_event true first m h refresh = λ u z. redrawn first m h (sym (refresh_returns true first m h).refusal ∙ z)
redrawn_event false first m h refresh = λ u z. absurd (true≢false (sym u))
redrawn_event alone first m h (step_on_other s ram boot) = tt
redrawn_event alone first m h (refresh_on_other ram picture) = tt
redrawn_event alone first m h (overwritten picture) = tt

pictures : (events : List Event) (alone : Bool) (first : List ℕ) (m : Machine) → Invariant alone first m → Pictures alone first m events
pictures [] alone first m h = tt
pictures (e ∷ es) alone first m h =
    λ (l : Lent m.board.sizes e). (redrawn_event alone first m h e, pictures es (undisturbed alone e) first (next m e) (kept alone first m h e l))

pub drawn_whole : DrawnWhole
drawn_whole sizes rate paging table top ram picture events e =
    subst (λ (b : Board). Pictures true picture (record { board = b; ram = ram; picture = picture }) events) (sym (power_on_board sizes rate paging table top e))
    (pictures events true picture (record { board = fresh_board sizes rate paging table top; ram = ram; picture = picture })
    (at_first sizes rate paging table top ram picture e))
