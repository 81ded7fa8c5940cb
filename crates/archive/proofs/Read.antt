-- A sound archive is the only one of its list.
-- Assumes nothing.
use Prim.Native.Nat.{ℕ, ◌+◌, ◌-◌, ◌*◌, ◌≤◌, ◌<◌}
use native.Mathlib.Omega.{arith}
use mathlib.Core.Path.{◌≡◌, refl, sym, ap, ◌∙◌}
use mathlib.Core.Bool.{Bool, true, false, ◌&&◌, ◌||◌}
use mathlib.Core.List.{List, ◌++◌, append_assoc, append-nil}
use borrow.Author.Tests.{leb-true, eqb-true, le-leb, lt-ltb}
use lib.Dec.{eqb, leb}
use lib.ListN.{length, get_or, take, drop, length-drop}
use lib.Seq.{length-take-le}
use Rattle.facts.specs.Tests.{every}
use Rattle.facts.proofs.Tests.{below_at, below_all}
use Rattle.facts.proofs.Bools.{both}
use Rattle.byte_rows.proofs.Rows.{three_parts, rows_take, zeros_behind}
use Rattle.archive.specs.Format.{shown_of, header, entry, entry_offset, picture_offset, entry_row, picture_row, written, frame_in, archive_of}
use Rattle.archive.specs.Sound.{count_of, bench_at, number_at, shown_at, offset_at, lines_at, frame_at, frames_of, fresh, good_shown, good_bench, header_good, header_of, entry_good, entry_of, header_sound, is_zero, rest_zero, entry_sound, sound, frame_good, frame_storable, storable}
use Rattle.byte_rows.specs.Numbers.{number4, at4}
use Rattle.byte_rows.proofs.Numbers.{number_more, at_small}
use Rattle.archive.proofs.Listing.{listing_length, listing_at, archive_same, fresh_same}
use Rattle.archive.proofs.Written.{shown_most}

-- ---- bytes as numbers

module _ (b : List ℕ) (small : (j : ℕ) → get_or b j 0 < 256) where
  entry_bytes : (s : ℕ) → s + 16 ≤ length b → entry (at4 b s) (at4 b (s + 4)) (at4 b (s + 8)) (at4 b (s + 12)) ≡ take 16 (drop s b)
  unfolding entry
  entry_bytes s h =
      rw (number_more b s (s + 4) 12 small refl (omega arith), number_more b (s + 4) (s + 8) 8 small (omega arith) (omega arith), number_more b (s + 8) (s + 12) 4 small (omega arith) (omega arith), number_more b (s + 12) (s + 16) 0 small (omega arith) (omega arith))
      (simp (append_assoc, append-nil))

  header_bytes : 20 ≤ length b → number4 (at4 b 0) ++ number4 (at4 b 4) ++ number4 (at4 b 8) ++ number4 (at4 b 12) ++ number4 (at4 b 16) ≡ take 20 b
  header_bytes h =
      sym (number_more b 0 4 16 small refl (omega arith)
      ∙ rw (number_more b 4 8 12 small refl (omega arith), number_more b 8 12 8 small refl (omega arith), number_more b 12 16 4 small refl (omega arith), number_more b 16 20 0 small refl (omega arith))
      (simp (append_assoc, append-nil)))

header_made : (n a c d e : ℕ) → a ≡ 1 → c ≡ 20 → d ≡ 20 + 16 * n → e ≡ 20 + 23056 * n
    → header n ≡ number4 a ++ number4 n ++ number4 c ++ number4 d ++ number4 e
unfolding header
header_made n a c d e p q r s = rw (p, q, r, s)

pub size_good : (s m : ℕ) → good_shown s ≡ true → m ≡ s * 90 → (eqb m 18000 || eqb m 23040) ≡ true
unfolding good_shown
size_good s m h e = go (eqb s 200) refl h
  where
    go : (t : Bool) → eqb s 200 ≡ t → (t || eqb s 256) ≡ true → (eqb m 18000 || eqb m 23040) ≡ true
    go true p q = rw (e, eqb-true s 200 p)
    go false p q = rw (e, eqb-true s 256 q)

-- ---- what a sound archive holds

pub record EntryIs (b : List ℕ) (k : ℕ) : Type 0 where
  pub bench : good_bench (bench_at b k) ≡ true
  pub shown : good_shown (shown_at b k) ≡ true
  pub offset : offset_at b k ≡ picture_offset (count_of b) k
  pub tail : rest_zero b k ≡ true
  pub new : fresh (frame_at b) k ≡ true

pub entry_is : (b : List ℕ) (k : ℕ) → entry_sound b k ≡ true → EntryIs b k
unfolding entry_sound entry_good entry_of
entry_is b k h =
    let p = both (entry_good (entry_of b k) (picture_offset (count_of b) k) && rest_zero b k) (fresh (frame_at b) k) h in
    let q = both (entry_good (entry_of b k) (picture_offset (count_of b) k)) (rest_zero b k) p.0 in
    let r = both (good_bench (bench_at b k) && good_shown (shown_at b k)) (eqb (offset_at b k) (picture_offset (count_of b) k)) q.0 in
    let s = both (good_bench (bench_at b k)) (good_shown (shown_at b k)) r.0 in
    record { bench = s.0; shown = s.1; offset = eqb-true (offset_at b k) (picture_offset (count_of b) k) r.1; tail = q.1; new = p.1 }

pub record HeaderIs (b : List ℕ) : Type 0 where
  pub form : at4 b 0 ≡ 1
  pub few : count_of b ≤ 1000
  pub entries : at4 b 8 ≡ 20
  pub pictures : at4 b 12 ≡ 20 + 16 * count_of b
  pub end : at4 b 16 ≡ 20 + 23056 * count_of b
  pub size : length b ≡ 20 + 23056 * count_of b

pub header_is : (b : List ℕ) → header_sound b ≡ true → HeaderIs b
unfolding header_sound header_good header_of count_of
header_is b h =
    let t2 = eqb (at4 b 0) 1 in
    let t3 = t2 && leb (count_of b) 1000 in
    let t4 = t3 && eqb (at4 b 8) 20 in
    let t5 = t4 && eqb (at4 b 12) (20 + 16 * count_of b) in
    let t6 = t5 && eqb (at4 b 16) (20 + 23056 * count_of b) in
    let p6 = both t6 (eqb (length b) (20 + 23056 * count_of b)) h in
    let p5 = both t5 (eqb (at4 b 16) (20 + 23056 * count_of b)) p6.0 in
    let p4 = both t4 (eqb (at4 b 12) (20 + 16 * count_of b)) p5.0 in
    let p3 = both t3 (eqb (at4 b 8) 20) p4.0 in
    let p2 = both t2 (leb (count_of b) 1000) p3.0 in
    record {
      form = eqb-true (at4 b 0) 1 p2.0;
      few = leb-true (count_of b) 1000 p2.1;
      entries = eqb-true (at4 b 8) 20 p3.1;
      pictures = eqb-true (at4 b 12) (20 + 16 * count_of b) p4.1;
      end = eqb-true (at4 b 16) (20 + 23056 * count_of b) p5.1;
      size = eqb-true (length b) (20 + 23056 * count_of b) p6.1;
    }

pub record SoundIs (b : List ℕ) : Type 0 where
  pub head : HeaderIs b
  pub each : (k : ℕ) → k < count_of b → EntryIs b k

pub sound_is : (b : List ℕ) → sound b ≡ true → SoundIs b
unfolding sound
sound_is b h =
    let p = both (header_sound b) (every (entry_sound b) 0 (count_of b)) h in
    record { head = header_is b p.0; each = λ k l. entry_is b k (below_at (entry_sound b) (count_of b) k p.1 l) }

-- ---- the frames of a sound archive

module _ (b : List ℕ) (is : SoundIs b) where
  offset_in : (k : ℕ) → k < count_of b → picture_offset (count_of b) k + 23040 ≤ length b
  unfolding picture_offset
  offset_in k l = omega (arith, is.head.size)

  pub lines_length : (k : ℕ) → k < count_of b → length (lines_at b k) ≡ shown_at b k * 90
  unfolding lines_at
  lines_length k l =
      length-take-le (shown_at b k * 90) (drop (offset_at b k) b)
      (simp length-drop (omega (arith, offset_in k l, (is.each k l).offset, shown_most (shown_at b k) (is.each k l).shown)))

  pub shown_is : (k : ℕ) → k < count_of b → shown_of (frame_at b k) ≡ shown_at b k
  unfolding shown_of frame_at
  shown_is k l = omega (arith, lines_length k l)

  blank_in : (k : ℕ) → k < count_of b → (i : ℕ) → i < 23040 - shown_at b k * 90 → get_or b (offset_at b k + shown_at b k * 90 + i) 0 ≡ 0
  unfolding rest_zero is_zero
  blank_in k l i h =
      eqb-true (get_or b (offset_at b k + shown_at b k * 90 + i) 0) 0
      (below_at (is_zero b (offset_at b k + shown_at b k * 90)) (23040 - shown_at b k * 90) i (is.each k l).tail h)

  -- picture k is the lines and zeros
  picture_is : (k : ℕ) → k < count_of b → picture_row (frame_at b) k ≡ take 23040 (drop (picture_offset (count_of b) k) b)
  unfolding picture_row frame_at lines_at
  picture_is k l =
      let n : shown_at b k * 90 ≤ 23040 = omega (arith, shown_most (shown_at b k) (is.each k l).shown) in
      rw (lines_length k l, ← (is.each k l).offset) (zeros_behind b (offset_at b k) (shown_at b k * 90) 23040 n (rw (is.each k l).offset (offset_in k l)) (blank_in k l))

  entry_row_is : ((j : ℕ) → get_or b j 0 < 256) → (k : ℕ) → k < count_of b → entry_row (frame_at b) (count_of b) k ≡ take 16 (drop (20 + 16 * k) b)
  unfolding entry_row frame_at entry_offset bench_at number_at shown_at offset_at
  entry_row_is small k l = rw (shown_is k l, ← (is.each k l).offset) (entry_bytes b small (20 + 16 * k) (omega (arith, is.head.size)))

  pub picture_at : (k : ℕ) → k < count_of b → picture_row (frame_at b) k ≡ take 23040 (drop (20 + 16 * count_of b + 23040 * k) b)
  unfolding picture_offset
  picture_at k l = picture_is k l

  header_of_lem : ((j : ℕ) → get_or b j 0 < 256) → header (count_of b) ≡ take 20 b
  unfolding header count_of
  header_of_lem small =
      let h = is.head in
      header_made (count_of b) (at4 b 0) (at4 b 8) (at4 b 12) (at4 b 16) h.form h.entries h.pictures h.end
      ∙ header_bytes b small (omega (arith, h.size))

  pub read_archive : ((j : ℕ) → get_or b j 0 < 256) → written (frame_at b) (count_of b) ≡ b
  unfolding written
  read_archive small =
      rw (header_of_lem small, rows_take (entry_row (frame_at b) (count_of b)) 16 b 20 (count_of b) (entry_row_is small), rows_take (picture_row (frame_at b)) 23040 b (20 + 16 * count_of b) (count_of b) picture_at)
      (three_parts b 20 (16 * count_of b) (23040 * count_of b) (omega (arith, is.head.size)))

  -- a sound archive is the only one of its list
  pub frames_count : length (frames_of b) ≡ count_of b
  unfolding frames_of
  frames_count = listing_length (frame_at b) (count_of b)

  pub frames_at : (k : ℕ) → k < count_of b → frame_in (frames_of b) k ≡ frame_at b k
  unfolding frames_of
  frames_at k l = listing_at (frame_at b) (count_of b) k l

  pub only_archive : ((j : ℕ) → get_or b j 0 < 256) → archive_of (frames_of b) ≡ b
  unfolding archive_of
  only_archive small = rw frames_count (archive_same (frame_in (frames_of b)) (frame_at b) (count_of b) frames_at ∙ read_archive small)

  -- and its list can be stored
  frame_good_lem : ((j : ℕ) → get_or b j 0 < 256) → (k : ℕ) → k < count_of b → frame_good (frame_at b k) ≡ true
  unfolding frame_good frame_at number_at
  frame_good_lem small k l =
      rw ((is.each k l).bench, lt-ltb (at4 b (entry_offset k + 4)) 4294967296 (at_small b (entry_offset k + 4) small), size_good (shown_at b k) (length (lines_at b k)) (is.each k l).shown (lines_length k l))

  pub frames_storable : ((j : ℕ) → get_or b j 0 < 256) → storable (frames_of b) ≡ true
  unfolding storable frame_storable
  frames_storable small =
      rw (frames_count, le-leb (count_of b) 1000 is.head.few)
      (below_all (frame_storable (frame_in (frames_of b))) (count_of b) (λ k l. rw (frames_at k l, fresh_same (frame_in (frames_of b)) (frame_at b) (count_of b) frames_at k l, frame_good_lem small k l, (is.each k l).new)))

-- two archives that read alike are one
pub only : (b d : List ℕ) → ((j : ℕ) → get_or b j 0 < 256) → ((j : ℕ) → get_or d j 0 < 256) → sound b ≡ true → sound d ≡ true → frames_of b ≡ frames_of d → b ≡ d
only b d sb sd p q e = sym (only_archive b (sound_is b p) sb) ∙ ap archive_of e ∙ only_archive d (sound_is d q) sd
