-- What holds at each point of a run, and that a step keeps it. The reference is at each point the mirror of record and RAM.
-- Assumes nothing.
use Prim.Native.Nat.{ℕ, ◌+◌, ◌*◌, ◌≤◌, ◌<◌}
use mathlib.Core.Path.{◌≡◌, refl, sym, ◌∙◌, ap, fun_ext}
use mathlib.Core.Bool.{Bool, true, false, cond, ◌&&◌, ◌||◌, and-false, or-false}
use mathlib.Core.List.{List, [], ◌∷◌}
use borrow.Author.Tests.{eqb-true}
use lib.Dec.{eqb}
use lib.ListN.{get_or, length}
use Rattle.facts.proofs.Bools.{or_first, or_second}
use Rattle.lineset.specs.Lines.{member, shown_count, is_shown}
use Rattle.lineset.proofs.Sets.{Words}
use Rattle.lineset.proofs.Shown.{is_shown_lem}
use Rattle.scanline.specs.Drawing.{View, changed, drawn}
use Rattle.scanline.proofs.Changes.{changed_self, unchanged_drawn}
use Rattle.board.specs.declared.record.Board.{Board}
use Rattle.board.specs.Record.{good, record_refusal, first_refusal, view_of}
use Rattle.board.specs.Dirty.{marked, dirty_after}
use Rattle.board.proofs.Dirty.{dirty_member}
use Rattle.board.proofs.Refusals.{first_none, first_second, first_assoc, good_record}
use Rattle.step_rules.specs.declared.Step.{Step}
use Rattle.step_rules.specs.After.{paging_after, video_after, ram_after, parts_after, board_after}
use Rattle.step_rules.specs.Answers.{length_refusal, kind_refusal, state_refusal, lent_refusal, own_refusal, step_refusal, nmi_shown, step_answer, step_ram}
use Rattle.step_rules.proofs.After.{state_still, answer_refusal, after_step}
use Rattle.step_rules.proofs.Good.{step_good, step_words, step_rate}
use Rattle.runs.specs.Reference.{Reference, view_in, known_refusal, after}
use Rattle.runs.specs.Reference as reference
use Rattle.runs.specs.Events.{step, Machine, next, Agrees, Returns, mirror}

-- No reference in it: that is the mirror.
pub record Invariant (alone : Bool) (first : List ℕ) (m : Machine) : Type 0 where
  pub good_board : good m.board ≡ true
  pub words : Words m.board.dirty
  pub size : alone ≡ true → length m.picture ≡ length first
  pub outside : alone ≡ true → (k : ℕ) → 90 * shown_count m.board.rate ≤ k → get_or m.picture k 0 ≡ get_or first k 0
  -- a shown line that is not dirty is drawn as it stands
  pub fresh : alone ≡ true → length m.picture ≡ 23040 → (L : ℕ) → L < shown_count m.board.rate → member m.board.dirty L ≡ false → (i : ℕ) → i < 90
      → get_or m.picture (90 * L + i) 0 ≡ drawn (view_of m.board m.ram) L i

pub agrees : (alone : Bool) (first : List ℕ) (m : Machine) → Invariant alone first m → Agrees alone first m (mirror m.board m.ram)
agrees alone first m h = record { ram = refl; dirty = λ L. refl; size = h.size; outside = h.outside }

-- ---- a step's refusal

pub step_refusal_lem : (b : Board) (ram boot : List ℕ) (s : Step) → good b ≡ true
    → step_refusal b ram boot s ≡ first_refusal (known_refusal (mirror b ram) (length boot) s ∷ state_refusal b (length boot) s ∷ [])
unfolding step_refusal lent_refusal own_refusal known_refusal
step_refusal_lem b ram boot s g =
    ap (λ (n : ℕ). first_refusal (n ∷ own_refusal b (length boot) s ∷ []))
    (first_second (record_refusal b) (length_refusal b.sizes (length ram) (length boot)) (good_record b g))
    ∙ first_assoc (length_refusal b.sizes (length ram) (length boot)) (kind_refusal s) (state_refusal b (length boot) s)

-- ---- the reference after a step

mirror_accepted : (b : Board) (ram : List ℕ) (s : Step) → Words b.dirty
    → after (mirror b ram) s ≡ mirror (nmi_shown (board_after b ram s)) (ram_after b.sizes b.paging ram s)
unfolding after nmi_shown board_after
mirror_accepted b ram s w =
    λ i. record {
      sizes = b.sizes;
      rate = b.rate;
      paging = paging_after b.paging s;
      video = video_after b.video s;
      ram = ram_after b.sizes b.paging ram s;
      dirty = lines i;
    }
  where
    then : View
    then = view_of (parts_after b s) (ram_after b.sizes b.paging ram s)

    lines : (λ (L : ℕ). member b.dirty L || marked b.rate (view_of b ram) then L) ≡ member (dirty_after b.dirty b.rate (view_of b ram) then)
    lines = fun_ext (λ (L : ℕ). sym (dirty_member b.dirty w b.rate (view_of b ram) then L))

-- where nothing changes no line is marked
none : (rate : ℕ) (v : View) (L : ℕ) → marked rate v v L ≡ false
unfolding marked
none rate v L = ap (λ (t : Bool). is_shown rate L && t) (changed_self v L) ∙ and-false (is_shown rate L)

-- a refusal that only the record knows does not move the reference
still : (r : Reference) (b : Board) (n : ℕ) (s : Step) → (state_refusal b n s ≡ 0 → ⊥) → after r s ≡ r
unfolding after
still r b n s ne =
    λ i. record { sizes = r.sizes; rate = r.rate; paging = same.0 i; video = same.1.0 i; ram = same.1.1 i; dirty = lines i }
  where
    same : (paging_after r.paging s ≡ r.paging) × ((video_after r.video s ≡ r.video) × (ram_after r.sizes r.paging r.ram s ≡ r.ram))
    same = state_still b n s ne r.sizes r.paging r.video r.ram

    lines : (λ (L : ℕ). r.dirty L || marked r.rate (view_in r) (record { video = video_after r.video s; ram = ram_after r.sizes r.paging r.ram s }) L) ≡ r.dirty
    lines =
        fun_ext
        (λ (L : ℕ).
        ap (λ (w : View). r.dirty L || marked r.rate (view_in r) w L) (λ i. record { video = same.1.0 i; ram = same.1.1 i })
        ∙ ap (λ (t : Bool). r.dirty L || t) (none r.rate (view_in r) L)
        ∙ or-false (r.dirty L))

pub mirror_step : (b : Board) (ram boot : List ℕ) (s : Step) → good b ≡ true → Words b.dirty
    → reference.step (mirror b ram) (length boot) s ≡ mirror (step_answer b ram boot s).board (step_ram b ram boot s)
unfolding reference.step
mirror_step b ram boot s g w =
    after_step b ram boot s (λ (c : Board) (x : List ℕ). reference.step (mirror b ram) (length boot) s ≡ mirror c x)
    (λ e. let z = first_none known own (sym (step_refusal_lem b ram boot s g) ∙ e) in rw z.0 (mirror_accepted b ram s w))
    (λ ne. go (eqb known 0) refl ne)
  where
    known : ℕ
    known = known_refusal (mirror b ram) (length boot) s

    own : ℕ
    own = state_refusal b (length boot) s

    go : (t : Bool) → eqb known 0 ≡ t → (step_refusal b ram boot s ≡ 0 → ⊥) → cond t (after (mirror b ram) s) (mirror b ram) ≡ mirror b ram
    go true f ne =
        still (mirror b ram) b (length boot) s
        (λ (z : own ≡ 0). ne (step_refusal_lem b ram boot s g ∙ first_second known own (eqb-true known 0 f) ∙ z))
    go false f ne = refl

-- ---- the invariant after a step

-- a line that is not dirty after an accepted step was not before, and is not changed
not_marked : (b : Board) (v u : View) (L : ℕ) → Words b.dirty → L < shown_count b.rate → member (dirty_after b.dirty b.rate v u) L ≡ false
    → (member b.dirty L ≡ false) × (changed v u L ≡ false)
unfolding marked
not_marked b v u L w l e =
    let f = sym (dirty_member b.dirty w b.rate v u L) ∙ e in (
      or_first (member b.dirty L) _ f,
      rw (is_shown_lem b.rate L l) at (or_second (member b.dirty L) (is_shown b.rate L && changed v u L) f),
    )

module _ (alone : Bool) (first : List ℕ) (m : Machine) (s : Step) (boot : List ℕ) (h : Invariant alone first m) where
  Fresh : Board → List ℕ → Type 0
  Fresh c x =
      alone ≡ true → length m.picture ≡ 23040 → (L : ℕ) → L < shown_count m.board.rate → member c.dirty L ≡ false → (i : ℕ) → i < 90
      → get_or m.picture (90 * L + i) 0 ≡ drawn (view_of c x) L i

  step_fresh : Fresh (step_answer m.board m.ram boot s).board (step_ram m.board m.ram boot s)
  unfolding Fresh nmi_shown board_after
  step_fresh =
      after_step m.board m.ram boot s Fresh
      (λ e u z L l d i k.
      let x = view_of m.board m.ram in
      let y = view_of (parts_after m.board s) (ram_after m.board.sizes m.board.paging m.ram s) in
      let p = not_marked m.board x y L h.words l d in
      h.fresh u z L l p.0 i k ∙ unchanged_drawn x y L p.1 i k)
      (λ ne. h.fresh)

  pub step_kept : Invariant alone first (next m (step s boot))
  unfolding Fresh
  step_kept =
      let e = step_rate m.board m.ram boot s in
      record {
        good_board = step_good m.board m.ram boot s h.good_board;
        words = step_words m.board m.ram boot s h.words;
        size = h.size;
        outside = λ u k l. h.outside u k (rw e at l);
        fresh = λ u z L l d i k. step_fresh u z L (rw e at l) d i k;
      }

  pub step_returns : Returns alone m (mirror m.board m.ram) (step s boot)
  step_returns = answer_refusal m.board m.ram boot s ∙ step_refusal_lem m.board m.ram boot s h.good_board
