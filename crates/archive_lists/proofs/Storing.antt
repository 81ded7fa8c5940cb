-- Lists that can be stored: their fronts, and one frame more; and the archive of one.
-- Assumes nothing.
use Prim.Native.Nat.{ℕ, ◌+◌, ◌*◌, ◌≤◌, ◌<◌}
use native.Mathlib.Omega.{arith}
use mathlib.Core.Path.{◌≡◌, refl, sym, ◌∙◌}
use mathlib.Core.Bool.{Bool, true, false, ◌&&◌, ◌||◌}
use mathlib.Core.List.{List, [], ◌∷◌, ◌++◌}
use borrow.Author.Tests.{eqb-true, lt-ltb, le-leb}
use lib.Dec.{eqb, ltb}
use lib.ListN.{length, take, length-append, get_or-append}
use lib.Seq.{length-take-le, get_or_at}
use Rattle.facts.specs.Tests.{every}
use Rattle.facts.proofs.Bools.{both}
use Rattle.facts.proofs.Tests.{below_all, below_more}
use Rattle.archive.specs.Format.{Frame, no_frame, frame_in, archive_of}
use Rattle.archive.specs.Sound.{count_of, frame_at, good_bench, good_shown, is_new, fresh, frame_good, frame_storable, storable}
use Rattle.archive_add.specs.Adding.{frame_of}
use Rattle.archive.proofs.Listing.{fresh_same, new_same}
use Rattle.archive.proofs.Read.{size_good}
use Rattle.archive.proofs.Written.{few_of, good_in, frame_of_lem, archive_numbers, archive_frame}

pub storable_none : storable [] ≡ true
unfolding storable every
storable_none = refl

-- a list and what follows it
module _ (fs gs : List Frame) where
  pub front_same : (k : ℕ) → k < length fs → frame_in (fs ++ gs) k ≡ frame_in fs k
  unfolding frame_in
  front_same k l = get_or-append fs gs no_frame k l

  pub storable_front : storable (fs ++ gs) ≡ true → storable fs ≡ true
  unfolding storable frame_storable
  storable_front h =
      let n : length (fs ++ gs) ≡ length fs + length gs = length-append fs gs in
      let few = few_of (fs ++ gs) h in
      rw (le-leb (length fs) 1000 (omega arith))
      (below_all (frame_storable (frame_in fs)) (length fs)
      (λ k l.
      let m : k < length (fs ++ gs) = omega arith in
      let p = frame_of_lem (fs ++ gs) h k m in
      let g : frame_good (frame_in fs k) ≡ true = rw (front_same k l) at p.0 in
      let f : fresh (frame_in fs) k ≡ true = sym (fresh_same (frame_in (fs ++ gs)) (frame_in fs) (length fs) front_same k l) ∙ p.1 in
      rw (g, f)))

-- one frame more
module _ (fs : List Frame) (f : Frame) where
  last_is : frame_in (fs ++ (f ∷ [])) (length fs) ≡ f
  unfolding frame_in
  last_is = get_or_at fs f [] no_frame (length fs) refl

  count_more : length (fs ++ (f ∷ [])) ≡ length fs + 1
  count_more = length-append fs (f ∷ [])

  fresh_last : fresh (frame_in (fs ++ (f ∷ []))) (length fs) ≡ is_new (frame_in fs) f.bench f.number (length fs)
  unfolding fresh
  fresh_last = rw last_is (new_same (frame_in (fs ++ (f ∷ []))) (frame_in fs) (length fs) (front_same fs (f ∷ [])) f.bench f.number)

  pub storable_more : storable fs ≡ true → length fs < 1000 → frame_good f ≡ true → is_new (frame_in fs) f.bench f.number (length fs) ≡ true
      → storable (fs ++ (f ∷ [])) ≡ true
  unfolding storable frame_storable
  storable_more s few good new =
      let old : every (frame_storable (frame_in (fs ++ (f ∷ [])))) 0 (length fs) ≡ true =
      below_all (frame_storable (frame_in (fs ++ (f ∷ [])))) (length fs)
      (λ k l.
      rw (front_same fs (f ∷ []) k l, fresh_same (frame_in (fs ++ (f ∷ []))) (frame_in fs) (length fs) (front_same fs (f ∷ [])) k l, (frame_of_lem fs s k l).0, (frame_of_lem fs s k l).1)) in
      let last : frame_storable (frame_in (fs ++ (f ∷ []))) (length fs) ≡ true = rw (last_is, fresh_last, good, new) in
      rw (count_more, le-leb (length fs + 1) 1000 (omega arith)) (below_more (frame_storable (frame_in (fs ++ (f ∷ [])))) (length fs) old last)

  pub storable_last : storable (fs ++ (f ∷ [])) ≡ true → (length fs < 1000) × (frame_good f ≡ true) × (is_new (frame_in fs) f.bench f.number (length fs) ≡ true)
  storable_last h =
      let few = few_of (fs ++ (f ∷ [])) h in
      let l : length fs < length (fs ++ (f ∷ [])) = omega (arith, count_more) in
      let p = frame_of_lem (fs ++ (f ∷ [])) h (length fs) l in
      (omega (arith, count_more, few), rw last_is at p.0, sym fresh_last ∙ p.1)

-- the frame of a call: its shown lines are as many as the call says
module _ (bench number shown : ℕ) (picture : List ℕ) (w : length picture ≡ 23040) (most : shown ≤ 256) where
  lines_count : length (take (shown * 90) picture) ≡ shown * 90
  lines_count = length-take-le (shown * 90) picture (omega arith)

  pub frame_good_lem : number < 4294967296 → good_bench bench ≡ true → good_shown shown ≡ true → frame_good (frame_of bench number shown picture) ≡ true
  unfolding frame_good frame_of
  frame_good_lem small b s = rw (b, lt-ltb number 4294967296 small, size_good shown (length (take (shown * 90) picture)) s lines_count)

  shown_good : (eqb (length (take (shown * 90) picture)) 18000 || eqb (length (take (shown * 90) picture)) 23040) ≡ true → good_shown shown ≡ true
  unfolding good_shown
  shown_good = go (eqb (length (take (shown * 90) picture)) 18000) refl
    where
      go : (x : Bool) → eqb (length (take (shown * 90) picture)) 18000 ≡ x → (x || eqb (length (take (shown * 90) picture)) 23040) ≡ true
          → (eqb shown 200 || eqb shown 256) ≡ true
      go true e h = let z : shown ≡ 200 = omega (arith, lines_count, eqb-true (length (take (shown * 90) picture)) 18000 e) in rw z
      go false e h = let z : shown ≡ 256 = omega (arith, lines_count, eqb-true (length (take (shown * 90) picture)) 23040 h) in rw z

  pub good_frame : frame_good (frame_of bench number shown picture) ≡ true → (good_bench bench ≡ true) × (good_shown shown ≡ true)
  unfolding frame_good frame_of
  good_frame h =
      let p = both (good_bench bench && ltb number 4294967296)
      (eqb (length (take (shown * 90) picture)) 18000 || eqb (length (take (shown * 90) picture)) 23040) h in
      ((both (good_bench bench) (ltb number 4294967296) p.0).0, shown_good p.1)

-- the archive of a list that can be stored
module _ (fs : List Frame) (s : storable fs ≡ true) where
  pub written_count : count_of (archive_of fs) ≡ length fs
  unfolding archive_of
  written_count = (archive_numbers (frame_in fs) (length fs) (few_of fs s) (good_in fs s)).1

  pub written_frame : (k : ℕ) → k < length fs → frame_at (archive_of fs) k ≡ frame_in fs k
  unfolding archive_of
  written_frame k l = archive_frame (frame_in fs) (length fs) (few_of fs s) (good_in fs s) k l

  pub written_new : (bench number : ℕ) → is_new (frame_at (archive_of fs)) bench number (count_of (archive_of fs)) ≡ is_new (frame_in fs) bench number (length fs)
  written_new bench number = rw written_count (new_same (frame_at (archive_of fs)) (frame_in fs) (length fs) written_frame bench number)
