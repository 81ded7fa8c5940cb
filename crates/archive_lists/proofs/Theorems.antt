-- The theorems about whole lists of frames that specs/Lists.antt states.
-- Assumes nothing.
use Prim.Native.Nat.{ℕ, suc, ◌+◌, ◌-◌, ◌*◌, ◌≤◌, ◌<◌}
use native.Mathlib.Omega.{arith}
use mathlib.Core.Path.{◌≡◌, refl, sym, ap, ◌∙◌}
use mathlib.Core.Bool.{Bool, true, false, true≢false}
use mathlib.Core.List.{List, [], ◌∷◌, ◌++◌, map, append-nil}
use borrow.Author.Tests.{eqb-true, eqb-false, ne_eqb, le-leb}
use lib.Dec.{eqb}
use lib.ListN.{length, length-append}
use lib.Seq.{append_snoc, take_at}
use Rattle.byte_rows.specs.Rows.{zeros}
use Rattle.byte_rows.proofs.Rows.{zeros_length}
use Rattle.archive.specs.Format.{Frame, frame_in, shown_of, archive_of}
use Rattle.archive.specs.Sound.{frame_good, storable}
use Rattle.archive.proofs.Read.{sound_is, frames_count, only_archive, only}
use Rattle.archive.proofs.Written.{shown_most, good_of, frame_of_lem}
use Rattle.archive_add.specs.Adding.{start_refusal, frame_of}
use Rattle.archive_lists.specs.Lists.{Add, frame_added, refusal_of, next_archive, Writing, one_more, writing, AllSmall, NoneRefused, Proper, AllProper, WrittenAndRead, call_of, EveryStorableList, FirstBreak, RefusedAtItsFirstBreak, OnlyArchive}
use Rattle.archive_lists.proofs.Reading.{reads_as}
use Rattle.archive_lists.proofs.Storing.{storable_none, storable_front}
use Rattle.archive_lists.proofs.Steps.{started_is, taken_storable, taken_archive, storable_taken, refused_with, refused_breaks}

-- ---- one call of a list

module _ (a : List ℕ) (c : Add) (cs : List Add) where
  taken_more : refusal_of a c ≡ 0 → writing a (c ∷ cs) ≡ one_more (writing (next_archive a c) cs)
  unfolding writing
  taken_more h = rw h

  refused_here : (refusal_of a c ≡ 0 → ⊥) → writing a (c ∷ cs) ≡ record { archive = a; added = 0; refusal = refusal_of a c }
  unfolding writing
  refused_here h = rw (ne_eqb (refusal_of a c) 0 h)

-- the front of a list and its next frame
snoc_front : (fs : List Frame) (c : Add) (cs : List Add) → storable (fs ++ map frame_added (c ∷ cs)) ≡ true → storable (fs ++ (frame_added c ∷ [])) ≡ true
snoc_front fs c cs h = storable_front (fs ++ (frame_added c ∷ [])) (map frame_added cs) (rw append_snoc h)

-- one frame more, and what a list of calls then asks
one_more_lem : (fs : List Frame) (f : Frame) → length (fs ++ (f ∷ [])) ≡ length fs + 1
one_more_lem fs f = length-append fs (f ∷ [])

-- ---- a list of which none is refused

none_refused_from : (fs : List Frame) (cs : List Add) → storable fs ≡ true → AllSmall cs → (writing (archive_of fs) cs).refusal ≡ 0
    → ((writing (archive_of fs) cs).archive ≡ archive_of (fs ++ map frame_added cs)) × (storable (fs ++ map frame_added cs) ≡ true)
unfolding writing
none_refused_from fs [] s h z = rw append-nil (refl, s)
none_refused_from fs (c ∷ cs) s h z =
    go (eqb (refusal_of (archive_of fs) c) 0) refl
    (λ (y : refusal_of (archive_of fs) c ≡ 0). λ (e : (writing (archive_of (fs ++ (frame_added c ∷ []))) cs).refusal ≡ 0).
    none_refused_from (fs ++ (frame_added c ∷ [])) cs (taken_storable fs c s y h.0) h.1 e)
  where
    go : (x : Bool) → eqb (refusal_of (archive_of fs) c) 0 ≡ x
        → (refusal_of (archive_of fs) c ≡ 0 → (writing (archive_of (fs ++ (frame_added c ∷ []))) cs).refusal ≡ 0
        → ((writing (archive_of (fs ++ (frame_added c ∷ []))) cs).archive ≡ archive_of ((fs ++ (frame_added c ∷ [])) ++ map frame_added cs))
        × (storable ((fs ++ (frame_added c ∷ [])) ++ map frame_added cs) ≡ true))
        → ((writing (archive_of fs) (c ∷ cs)).archive ≡ archive_of (fs ++ map frame_added (c ∷ cs))) × (storable (fs ++ map frame_added (c ∷ cs)) ≡ true)
    go true e f =
        let y = eqb-true (refusal_of (archive_of fs) c) 0 e in
        let w : writing (archive_of fs) (c ∷ cs) ≡ one_more (writing (archive_of (fs ++ (frame_added c ∷ []))) cs) =
        taken_more (archive_of fs) c cs y ∙ rw (taken_archive fs c s y h.0) in
        let r = f y (ap (λ (v : Writing). v.refusal) (sym w) ∙ z) in
        (ap (λ (v : Writing). v.archive) w ∙ rw append_snoc at r.0, rw append_snoc at r.1)
    go false e f =
        let n : (refusal_of (archive_of fs) c ≡ 0 → ⊥) = eqb-false (refusal_of (archive_of fs) c) 0 e in
        absurd (n (ap (λ (v : Writing). v.refusal) (sym (refused_here (archive_of fs) c cs n)) ∙ z))

pub none_refused : NoneRefused
none_refused room cs r h z =
    let e = none_refused_from [] cs storable_none h (ap (λ (a : List ℕ). (writing a cs).refusal) (sym (started_is room r)) ∙ z) in
    rw (started_is room r, e.0) (refl, reads_as (map frame_added cs) e.1)

-- ---- a list that can be stored

writes : (fs : List Frame) (cs : List Add) → storable fs ≡ true → AllProper (length fs) cs → storable (fs ++ map frame_added cs) ≡ true
    → writing (archive_of fs) cs ≡ record { archive = archive_of (fs ++ map frame_added cs); added = length cs; refusal = 0 }
unfolding writing
writes fs [] s h t = rw append-nil
writes fs (c ∷ cs) s h t =
    let g : storable (fs ++ (frame_added c ∷ [])) ≡ true = snoc_front fs c cs t in
    let z : refusal_of (archive_of fs) c ≡ 0 = storable_taken fs c s h.0 g in
    taken_more (archive_of fs) c cs z
    ∙ rw (taken_archive fs c s z h.0.number, writes (fs ++ (frame_added c ∷ [])) cs g (rw (one_more_lem fs (frame_added c)) h.1) (rw append_snoc t), append_snoc)

pub written_and_read : WrittenAndRead
written_and_read room cs r h t = rw (started_is room r, writes [] cs storable_none h t) (refl, reads_as (map frame_added cs) t)

-- ---- every list of frames that can be stored

module _ (room : List ℕ) where
  -- the call that adds a frame adds just that
  call_back : (f : Frame) → frame_good f ≡ true → frame_added (call_of room f) ≡ f
  unfolding frame_of
  call_back f g =
      ap (λ (x : List ℕ). record { bench = f.bench; number = f.number; lines = x })
      (take_at f.lines (zeros (23040 - length f.lines)) (shown_of f * 90) (good_of f g).size)

  calls_back : (fs : List Frame) → ((k : ℕ) → k < length fs → frame_good (frame_in fs k) ≡ true) → map frame_added (map (call_of room) fs) ≡ fs
  unfolding frame_in
  calls_back [] h = refl
  calls_back (f ∷ fs) h = rw (call_back f (h 0 (omega arith)), calls_back fs (λ k l. h (suc k) (omega arith)))

  call_proper : (n : ℕ) (f : Frame) → frame_good f ≡ true → 20 + 23056 * n ≤ length room → Proper n (call_of room f)
  call_proper n f g r =
      let o = good_of f g in
      record {
        number = o.number;
        picture = simp (length-append, zeros_length) (omega (arith, o.size, shown_most (shown_of f) o.shown));
        shown = shown_most (shown_of f) o.shown;
        room = λ few. r;
      }

  calls_proper : (n : ℕ) (fs : List Frame) → ((k : ℕ) → k < length fs → frame_good (frame_in fs k) ≡ true) → 20 + 23056 * (n + length fs) ≤ length room
      → AllProper n (map (call_of room) fs)
  unfolding frame_in
  calls_proper n [] h r = tt
  calls_proper n (f ∷ fs) h r =
      (call_proper (n + 1) f (h 0 (omega arith)) (omega arith), calls_proper (n + 1) fs (λ k l. h (suc k) (omega arith)) (omega arith))

  calls_count : (fs : List Frame) → length (map (call_of room) fs) ≡ length fs
  calls_count [] = refl
  calls_count (f ∷ fs) = ap suc (calls_count fs)

pub every_storable_list : EveryStorableList
unfolding start_refusal
every_storable_list room fs s r =
    let good : (k : ℕ) → k < length fs → frame_good (frame_in fs k) ≡ true = λ k l. (frame_of_lem fs s k l).0 in
    let back = calls_back room fs good in
    let begun : start_refusal (length room) ≡ 0 = rw (le-leb 20 (length room) (omega arith)) in
    let w = written_and_read room (map (call_of room) fs) begun (calls_proper room 0 fs good (omega arith)) (rw back s) in
    rw (back, calls_count room fs) at w

-- ---- a list that can't be

breaks : (fs : List Frame) (cs : List Add) → storable fs ≡ true → AllProper (length fs) cs → storable (fs ++ map frame_added cs) ≡ false → FirstBreak (archive_of fs) fs cs
breaks fs [] s h t = absurd (true≢false (sym s ∙ rw append-nil at t))
breaks fs (c ∷ cs) s h t =
    go (eqb (refusal_of (archive_of fs) c) 0) refl
    (λ (z : refusal_of (archive_of fs) c ≡ 0).
    breaks (fs ++ (frame_added c ∷ [])) cs (taken_storable fs c s z h.0.number) (rw (one_more_lem fs (frame_added c)) h.1) (rw append_snoc t))
  where
    here : (refusal_of (archive_of fs) c ≡ 0 → ⊥) → FirstBreak (archive_of fs) fs (c ∷ cs)
    here ne = record {
      before = [];
      breaker = c;
      after = cs;
      split = refl;
      storable_before = rw append-nil s;
      broken = refused_breaks fs c s h.0 ne;
      refused = refused_here (archive_of fs) c cs ne ∙ rw (append-nil, refused_with fs c s h.0 ne);
    }

    later : refusal_of (archive_of fs) c ≡ 0 → FirstBreak (archive_of (fs ++ (frame_added c ∷ []))) (fs ++ (frame_added c ∷ [])) cs → FirstBreak (archive_of fs) fs (c ∷ cs)
    later z b = record {
      before = c ∷ b.before;
      breaker = b.breaker;
      after = b.after;
      split = ap (λ (xs : List Add). c ∷ xs) b.split;
      storable_before = rw append_snoc at b.storable_before;
      broken = rw append_snoc at b.broken;
      refused = taken_more (archive_of fs) c cs z ∙ rw (taken_archive fs c s z h.0.number, b.refused, append_snoc);
    }

    go : (x : Bool) → eqb (refusal_of (archive_of fs) c) 0 ≡ x
        → (refusal_of (archive_of fs) c ≡ 0 → FirstBreak (archive_of (fs ++ (frame_added c ∷ []))) (fs ++ (frame_added c ∷ [])) cs) → FirstBreak (archive_of fs) fs (c ∷ cs)
    go true e f = let z = eqb-true (refusal_of (archive_of fs) c) 0 e in later z (f z)
    go false e f = here (eqb-false (refusal_of (archive_of fs) c) 0 e)

pub refused_at_its_first_break : RefusedAtItsFirstBreak
refused_at_its_first_break room cs r h t = rw (started_is room r) (breaks [] cs storable_none h t)

-- ---- the only archive

pub the_only_archive : OnlyArchive
the_only_archive a bytes s =
    let is = sound_is a s in
    (only_archive a is bytes, is.head.size ∙ rw (frames_count a is), λ d b t e. only a d bytes b s t e)
