-- Reading after adding: the theorem that specs/After.antt states.
-- Assumes nothing.
use Prim.Native.Nat.{ℕ, ◌+◌, ◌*◌, ◌<◌}
use native.Mathlib.Omega.{arith}
use mathlib.Core.Path.{◌≡◌, refl, sym, ap, ◌∙◌}
use mathlib.Core.Bool.{true}
use mathlib.Core.List.{List, [], ◌∷◌, ◌++◌}
use lib.ListN.{length, take, length-append}
use lib.Seq.{get_or_at, length-take-le}
use Rattle.facts.specs.Lists.{in_room}
use Rattle.archive.specs.declared.numbers.Entry.{Entry}
use Rattle.archive.specs.Format.{Frame, no_frame, frame_in, shown_of, archive_of}
use Rattle.archive.specs.Sound.{count_of, frames_of, storable}
use Rattle.archive.proofs.Read.{sound_is, frames_count, frames_storable, only_archive}
use Rattle.archive.proofs.Written.{shown_most}
use Rattle.archive_read.specs.Reading.{read_answer, read_picture}
use Rattle.archive_add.specs.Adding.{frame_of}
use Rattle.archive_add.proofs.Adding.{add_taken}
use Rattle.archive_lists.specs.Lists.{Add, frame_added, refusal_of, next_archive, Gives}
use Rattle.archive_lists.specs.After.{ReadAfterAdd}
use Rattle.archive_lists.proofs.Reading.{reads, reads_lines}
use Rattle.archive_lists.proofs.Storing.{front_same}
use Rattle.archive_lists.proofs.Steps.{taken_storable, taken_archive}

-- ---- the archive of a list, and one frame more

module _ (fs : List Frame) (s : storable fs ≡ true) (c : Add) (small : c.number < 4294967296) (z : refusal_of (archive_of fs) c ≡ 0) (picture : List ℕ)
    (w : length picture ≡ 23040) where
  abbrev gs : List Frame
  gs = fs ++ (frame_added c ∷ [])

  sg : storable gs ≡ true
  sg = taken_storable fs c s z small

  one_more_lem : length gs ≡ length fs + 1
  one_more_lem = length-append fs (frame_added c ∷ [])

  last_is : frame_in gs (length fs) ≡ frame_added c
  unfolding frame_in
  last_is = get_or_at fs (frame_added c) [] no_frame (length fs) refl

  shown_is : shown_of (frame_added c) ≡ c.shown
  unfolding shown_of frame_of
  shown_is =
      let t = add_taken (archive_of fs) c.bench c.number c.shown (length c.picture) (length c.room) z in
      let m = shown_most c.shown t.good_shown_lem in
      let n : length (take (c.shown * 90) c.picture) ≡ c.shown * 90 = length-take-le (c.shown * 90) c.picture (omega (arith, t.whole)) in
      omega arith

  new_read : Gives (read_answer (next_archive (archive_of fs) c) (length fs) 23040) c.bench c.number c.shown
      × (read_picture (next_archive (archive_of fs) c) (length fs) picture ≡ in_room (take (c.shown * 90) c.picture) picture)
  unfolding frame_of
  new_read =
      let l : length fs < length gs = omega (arith, one_more_lem) in
      let r = rw last_is at (reads gs sg (length fs) l) in
      rw (taken_archive fs c s z small)
      ((r.0, r.1, r.2, r.3 ∙ shown_is), reads_lines gs sg (length fs) l picture w ∙ ap (λ (f : Frame). in_room f.lines picture) last_is)

  old_read : (k : ℕ) → k < length fs
      → (let e : Entry = (read_answer (archive_of fs) k 23040).entry in Gives (read_answer (next_archive (archive_of fs) c) k 23040) e.bench e.number e.shown)
      × (read_picture (next_archive (archive_of fs) c) k picture ≡ read_picture (archive_of fs) k picture)
  old_read k l =
      let m : k < length gs = omega (arith, one_more_lem) in
      let same : frame_in gs k ≡ frame_in fs k = front_same fs (frame_added c ∷ []) k l in
      let r = rw same at (reads gs sg k m) in
      let o = reads fs s k l in
      rw (taken_archive fs c s z small) (
        (r.0, r.1 ∙ sym o.1, r.2 ∙ sym o.2, r.3 ∙ sym o.3),
        reads_lines gs sg k m picture w ∙ ap (λ (f : Frame). in_room f.lines picture) same ∙ sym (reads_lines fs s k l picture w),
      )

pub read_after_add : ReadAfterAdd
read_after_add a c picture bytes small z w =
    let t = add_taken a c.bench c.number c.shown (length c.picture) (length c.room) z in
    let is = sound_is a t.is_sound in
    let s = frames_storable a is bytes in
    let e : archive_of (frames_of a) ≡ a = only_archive a is bytes in
    let n : length (frames_of a) ≡ count_of a = frames_count a is in
    let y : refusal_of (archive_of (frames_of a)) c ≡ 0 = rw e z in
    (rw (e, n) at (new_read (frames_of a) s c small y picture w), λ k l. rw e at (old_read (frames_of a) s c small y picture w k (omega arith)))
