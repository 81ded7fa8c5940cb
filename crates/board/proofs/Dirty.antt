-- Laws of the dirty lines: none is added where nothing changes, the shown ones where the registers differ, and by a store the
-- shown ones that it touches.
-- Assumes nothing.
use Prim.Native.Nat.{ℕ, ◌≤◌, ◌<◌}
use mathlib.Core.Path.{◌≡◌, refl, sym, ◌∙◌, ap, ap₂}
use mathlib.Core.Bool.{Bool, true, false, not, ◌&&◌, ◌||◌, and-false, and-true, and_comm}
use mathlib.Core.List.{List}
use mathlib.Core.Logic.{⊎_elim}
use borrow.Author.Tests.{ne_eqb, eqb-true, leb-true, ltb-true, ltb-false}
use lib.Dec.{eqb, leb, ltb}
use lib.ListN.{get_or, set, length}
use lib.Seq.{set_out, set-get_or}
use Rattle.facts.proofs.Bools.{either}
use Rattle.lineset.specs.declared.LineSet.{LineSet}
use Rattle.lineset.specs.Lines.{set_of, member, is_shown, shown_set}
use Rattle.lineset.proofs.Sets.{Words, member_set, more_agree, more_none}
use Rattle.lineset.proofs.Shown.{shown_below, shown_member, more_member}
use Rattle.scanline.specs.declared.Video.{Video}
use Rattle.scanline.specs.Drawing.{View, video_differs, changed, touches}
use Rattle.scanline.proofs.Changes.{registers_changed, changed_self, after_store, store_changed}
use Rattle.scanline.proofs.Touches.{touches_past}
use Rattle.board.specs.Dirty.{marked, dirty_after}

module _ (d : LineSet) (w : Words d) (rate : ℕ) where
  -- nothing changes: no line is added
  pub dirty_none : (v u : View) → ((L : ℕ) → changed v u L ≡ false) → dirty_after d rate v u ≡ d
  unfolding dirty_after marked
  dirty_none v u h =
      more_none d w (λ (L : ℕ). is_shown rate L && changed v u L) (λ L l. ap (λ (t : Bool). is_shown rate L && t) (h L) ∙ and-false (is_shown rate L))

  pub dirty_same : (v : View) → dirty_after d rate v v ≡ d
  dirty_same v = dirty_none v v (changed_self v)

-- line by line, at every number
pub dirty_member : (d : LineSet) → Words d → (rate : ℕ) (v u : View) (L : ℕ) → member (dirty_after d rate v u) L ≡ (member d L || marked rate v u L)
unfolding dirty_after marked
dirty_member d w rate v u L = more_member d (marked rate v u) w (λ M h. ap (λ (t : Bool). t && changed v u M) (shown_below rate M h)) L

-- with the same RAM the shown lines are added if the registers differ
module _ (d : LineSet) (rate : ℕ) (ram : List ℕ) (v u : Video) where
  pub registers_differ : video_differs v u ≡ true → set_of (λ (L : ℕ). member d L || is_shown rate L) ≡ dirty_after d rate (record { video = v; ram = ram }) (record { video = u; ram = ram })
  unfolding dirty_after marked
  registers_differ e =
      more_agree d (is_shown rate) (λ (L : ℕ). is_shown rate L && changed (record { video = v; ram = ram }) (record { video = u; ram = ram }) L)
      (λ L l. sym (and-true (is_shown rate L)) ∙ ap (λ (t : Bool). is_shown rate L && t) (sym (registers_changed ram v u L ∙ e)))

  pub registers_same : Words d → video_differs v u ≡ false → dirty_after d rate (record { video = v; ram = ram }) (record { video = u; ram = ram }) ≡ d
  registers_same w e = dirty_none d w rate (record { video = v; ram = ram }) (record { video = u; ram = ram }) (λ L. registers_changed ram v u L ∙ e)

-- a store
module _ (d : LineSet) (rate : ℕ) (v : View) (at x : ℕ) where
  -- of the byte that is there, or past the end
  pub store_same : Words d → set v.ram at x ≡ v.ram → dirty_after d rate v (after_store v at x) ≡ d
  store_same w e = ap (λ (r : List ℕ). dirty_after d rate v (record { video = v.video; ram = r })) e ∙ dirty_same d w rate v

  -- past block 7, where no line is drawn from
  pub store_past : Words d → v.video.table < 256 → 131072 ≤ at → dirty_after d rate v (after_store v at x) ≡ d
  store_past w t p = go (ltb at (length v.ram)) refl
    where
      go : (s : Bool) → ltb at (length v.ram) ≡ s → dirty_after d rate v (after_store v at x) ≡ d
      go true e =
          dirty_none d w rate v (after_store v at x)
          (λ L.
          store_changed v at x L (ltb-true at (length v.ram) e)
          ∙ ap (λ (z : Bool). not (eqb (get_or v.ram at 0) x) && z)
          (touches_past v.ram v.video.table v.video.top at L p t)
          ∙ and-false (not (eqb (get_or v.ram at 0) x)))
      go false e = store_same w (set_out v.ram at x (ltb-false at (length v.ram) e))

  -- either of the two, as the code tests it
  pub store_unmarked : Words d → v.video.table < 256
      → (leb 131072 at || eqb (get_or v.ram at 0) x) ≡ true → dirty_after d rate v (after_store v at x) ≡ d
  store_unmarked w t e =
      ⊎_elim (λ (p : leb 131072 at ≡ true). store_past w t (leb-true 131072 at p))
      (λ (p : eqb (get_or v.ram at 0) x ≡ true). store_same w (ap (λ (z : ℕ). set v.ram at z) (sym (eqb-true (get_or v.ram at 0) x p)) ∙ set-get_or v.ram at 0))
      (either (leb 131072 at) (eqb (get_or v.ram at 0) x) e)

  pub store_out : Words d → length v.ram ≤ at → dirty_after d rate v (after_store v at x) ≡ d
  store_out w l = store_same w (set_out v.ram at x l)

  -- of another byte: the shown lines among those that it touches are added
  pub store_marks : (t i u : LineSet) → at < length v.ram → (get_or v.ram at 0 ≡ x → ⊥)
      → t ≡ set_of (touches v.ram v.video.table v.video.top at)
      → i ≡ set_of (λ (L : ℕ). member t L && member (shown_set rate) L)
      → u ≡ set_of (λ (L : ℕ). member d L || member i L)
      → u ≡ dirty_after d rate v (after_store v at x)
  unfolding dirty_after marked
  store_marks t i u l ne et ei eu =
      eu ∙ more_agree d (member i) (λ (L : ℕ). is_shown rate L && changed v (after_store v at x) L) line
    where
      touched_line : (L : ℕ) → L < 256 → member t L ≡ touches v.ram v.video.table v.video.top at L
      touched_line L h = ap (λ (z : LineSet). member z L) et ∙ member_set (touches v.ram v.video.table v.video.top at) L h

      changed_line : (L : ℕ) → changed v (after_store v at x) L ≡ touches v.ram v.video.table v.video.top at L
      changed_line L =
          store_changed v at x L l
          ∙ ap (λ (z : Bool). not z && touches v.ram v.video.table v.video.top at L) (ne_eqb (get_or v.ram at 0) x ne)

      line : (L : ℕ) → L < 256 → member i L ≡ (is_shown rate L && changed v (after_store v at x) L)
      line L h =
          ap (λ (z : LineSet). member z L) ei
          ∙ member_set (λ (M : ℕ). member t M && member (shown_set rate) M) L h
          ∙ ap₂ ◌&&◌ (touched_line L h ∙ sym (changed_line L)) (shown_member rate L)
          ∙ and_comm (changed v (after_store v at x) L) (is_shown rate L)
