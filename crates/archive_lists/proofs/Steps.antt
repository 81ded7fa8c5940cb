-- One call of `add` on the archive of a list that can be stored: when it is taken, what it leaves, and with which number it is refused.
-- Assumes nothing.
use Prim.Native.Nat.{ℕ, ◌+◌, ◌*◌, ◌<◌}
use native.Mathlib.Omega.{arith}
use mathlib.Core.Path.{◌≡◌, refl, sym, ap, ◌∙◌}
use mathlib.Core.Bool.{Bool, true, false, cond, ◌&&◌}
use mathlib.Core.List.{List, [], ◌∷◌, ◌++◌}
use borrow.Author.Tests.{eq-eqb, lt-ltb, le-leb}
use lib.ListN.{length, length-append}
use lib.Seq.{take_at}
use Rattle.facts.specs.Lists.{in_room}
use Rattle.archive.specs.Format.{Frame, frame_in, archive_of}
use Rattle.archive.specs.Sound.{is_new, storable}
use Rattle.archive.specs.Answers.{good_fields}
use Rattle.archive.proofs.Written.{shown_most, few_of, good_in, archive_length, written_sound, written_read}
use Rattle.archive_add.specs.Adding.{length_or, start_refusal, start_room, frame_of, next_length, room_for, add_refusal, add_room}
use Rattle.archive_add.proofs.Adding.{AddTaken, add_taken}
use Rattle.archive_lists.specs.Lists.{Add, frame_added, refusal_of, started, next_archive, Proper, break_refusal}
use Rattle.archive_lists.proofs.Storing.{storable_none, storable_more, storable_last, frame_good_lem, good_frame, written_count, written_new}

pub written_length : (fs : List Frame) → storable fs ≡ true → length (archive_of fs) ≡ 20 + 23056 * length fs
unfolding archive_of
written_length fs s = archive_length (frame_in fs) (length fs) (few_of fs s) (good_in fs s)

pub started_is : (room : List ℕ) → start_refusal (length room) ≡ 0 → started room ≡ archive_of []
unfolding started length_or start_room in_room
started_is room h = rw h (take_at (archive_of []) _ 20 (written_length [] storable_none))

module _ (fs : List Frame) (c : Add) (s : storable fs ≡ true) where
  -- ---- the refusal, by the list

  by_list : length c.picture ≡ 23040
      → refusal_of (archive_of fs) c
      ≡ cond (good_fields c.bench c.shown && is_new (frame_in fs) c.bench c.number (length fs)) (cond (room_for (length fs) (length c.room)) 0 12) 11
  unfolding add_refusal
  by_list w = rw (eq-eqb (length c.picture) 23040 w, written_sound fs s, written_new fs s, written_count fs s)

  -- ---- a call that is taken

  module _ (taken : refusal_of (archive_of fs) c ≡ 0) where
    t : AddTaken (archive_of fs) c.bench c.number c.shown (length c.picture) (length c.room)
    t = add_taken (archive_of fs) c.bench c.number c.shown (length c.picture) (length c.room) taken

    pub taken_storable : c.number < 4294967296 → storable (fs ++ (frame_added c ∷ [])) ≡ true
    unfolding frame_of
    taken_storable small =
        storable_more fs (frame_added c) s (rw (written_count fs s) at t.few)
        (frame_good_lem c.bench c.number c.shown c.picture t.whole (shown_most c.shown t.good_shown_lem) small t.good_bench_lem t.good_shown_lem)
        (sym (written_new fs s c.bench c.number) ∙ t.new)

    pub taken_archive : c.number < 4294967296 → next_archive (archive_of fs) c ≡ archive_of (fs ++ (frame_added c ∷ []))
    unfolding next_archive length_or next_length add_room in_room
    taken_archive small =
        let gs : List Frame = fs ++ (frame_added c ∷ []) in
        let n : length (archive_of gs) ≡ 20 + 23056 * (length fs + 1) =
        written_length gs (taken_storable small) ∙ ap (λ (m : ℕ). 20 + 23056 * m) (length-append fs (frame_added c ∷ [])) in
        rw (taken, written_count fs s, written_read fs s) (take_at (archive_of gs) _ (20 + 23056 * (length fs + 1)) n)

  -- ---- a proper call: taken exactly if the list with its frame can be stored

  module _ (p : Proper (length fs + 1) c) where
    room_there : length fs < 1000 → room_for (length fs) (length c.room) ≡ true
    unfolding room_for next_length
    room_there few = rw (lt-ltb (length fs) 1000 few, le-leb (20 + 23056 * (length fs + 1)) (length c.room) (p.room (omega arith)))

    pub storable_taken : storable (fs ++ (frame_added c ∷ [])) ≡ true → refusal_of (archive_of fs) c ≡ 0
    unfolding good_fields frame_of
    storable_taken h =
        let e = storable_last fs (frame_added c) h in
        let g = good_frame c.bench c.number c.shown c.picture p.picture p.shown e.1 in
        by_list p.picture ∙ rw (g.0, g.1, e.2, room_there e.0)

    pub refused_with : (refusal_of (archive_of fs) c ≡ 0 → ⊥) → refusal_of (archive_of fs) c ≡ break_refusal fs c
    unfolding break_refusal
    refused_with ne =
        go (good_fields c.bench c.shown && is_new (frame_in fs) c.bench c.number (length fs)) refl (room_for (length fs) (length c.room)) refl
      where
        go : (x : Bool) → (good_fields c.bench c.shown && is_new (frame_in fs) c.bench c.number (length fs)) ≡ x → (y : Bool) → room_for (length fs) (length c.room) ≡ y
            → refusal_of (archive_of fs) c ≡ cond x 12 11
        go true e true f = absurd (ne (by_list p.picture ∙ rw (e, f)))
        go true e false f = by_list p.picture ∙ rw (e, f)
        go false e y f = by_list p.picture ∙ rw e

    pub refused_breaks : (refusal_of (archive_of fs) c ≡ 0 → ⊥) → storable (fs ++ (frame_added c ∷ [])) ≡ false
    refused_breaks ne = go (storable (fs ++ (frame_added c ∷ []))) refl
      where
        go : (x : Bool) → storable (fs ++ (frame_added c ∷ [])) ≡ x → x ≡ false
        go true e = absurd (ne (storable_taken e))
        go false e = refl
