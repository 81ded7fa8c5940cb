-- An archive that is written from frames reads back.
-- Assumes nothing.
use Prim.Native.Nat.{ℕ, ◌+◌, ◌-◌, ◌*◌, ◌≤◌, ◌<◌}
use native.Mathlib.Nat.{add_assoc, add-zero}
use native.Mathlib.Omega.{arith}
use mathlib.Core.Path.{◌≡◌, refl, sym, ap, ◌∙◌}
use mathlib.Core.Bool.{Bool, true, false, ◌&&◌, ◌||◌}
use mathlib.Core.List.{List, [], ◌++◌, append_assoc, append-nil}
use borrow.Author.Tests.{ltb-true, leb-true, eqb-true, eq-eqb, le-leb}
use lib.Dec.{eqb, ltb, leb}
use lib.ListN.{length, get_or, drop, length-append, get_or-append}
use lib.Seq.{take_at, get_or-append-add, get_or-drop}
use Rattle.facts.specs.Tests.{every}
use Rattle.facts.proofs.Tests.{below_at, below_all}
use Rattle.facts.proofs.Bools.{both}
use Rattle.byte_rows.specs.Rows.{rows, zeros}
use Rattle.byte_rows.proofs.Rows.{drop_past, rows_length, rows_at, zeros_length, zeros_at}
use Rattle.archive.specs.Format.{Frame, shown_of, header, entry, entry_offset, picture_offset, entry_row, picture_row, written, frame_in, listing, archive_of}
use Rattle.archive.specs.Sound.{count_of, bench_at, number_at, shown_at, offset_at, lines_at, frame_at, frames_of, fresh, good_shown, good_bench, header_good, header_of, entry_good, entry_of, header_sound, is_zero, rest_zero, entry_sound, sound, frame_good, frame_storable, storable}
use Rattle.byte_rows.specs.Numbers.{number4, at4}
use Rattle.archive.proofs.Listing.{listing_same, listing_back, fresh_same}
use Rattle.byte_rows.proofs.Numbers.{whole, at_drop}

-- what is known of a frame that can be stored
pub record Good (f : Frame) : Type 0 where
  pub bench : good_bench f.bench ≡ true
  pub number : f.number < 4294967296
  pub shown : good_shown (shown_of f) ≡ true
  pub size : length f.lines ≡ shown_of f * 90

pub bench_most : (n : ℕ) → good_bench n ≡ true → (1 ≤ n) × (n ≤ 65535)
unfolding good_bench
bench_most n e = let h = both (leb 1 n) (leb n 65535) e in (leb-true 1 n h.0, leb-true n 65535 h.1)

pub shown_most : (n : ℕ) → good_shown n ≡ true → n ≤ 256
unfolding good_shown
shown_most n e = go (eqb n 200) refl e
  where
    go : (b : Bool) → eqb n 200 ≡ b → (b || eqb n 256) ≡ true → n ≤ 256
    go true h t = omega (arith, eqb-true n 200 h)
    go false h t = omega (arith, eqb-true n 256 t)

pub good_of : (f : Frame) → frame_good f ≡ true → Good f
unfolding frame_good shown_of good_shown
good_of f e =
    let p = both (good_bench f.bench && ltb f.number 4294967296) (eqb (length f.lines) 18000 || eqb (length f.lines) 23040) e in
    let q = both (good_bench f.bench) (ltb f.number 4294967296) p.0 in
    go q.0 (ltb-true f.number 4294967296 q.1) (eqb (length f.lines) 18000) refl p.1
  where
    go : good_bench f.bench ≡ true → f.number < 4294967296 → (b : Bool) → eqb (length f.lines) 18000 ≡ b → (b || eqb (length f.lines) 23040) ≡ true → Good f
    go h i true e t =
        let z = eqb-true (length f.lines) 18000 e in
        record { bench = h; number = i; shown = rw z; size = rw z }
    go h i false e t =
        let z = eqb-true (length f.lines) 23040 t in
        record { bench = h; number = i; shown = rw z; size = rw z }

-- ---- the numbers of a header and of an entry

module _ (a b c d : ℕ) (r : List ℕ) (ha : a < 4294967296) (hb : b < 4294967296) (hc : c < 4294967296) (hd : d < 4294967296) where
  pub entry_reads : (at4 (entry a b c d ++ r) 0 ≡ a) × (at4 (entry a b c d ++ r) 4 ≡ b) × (at4 (entry a b c d ++ r) 8 ≡ c) × (at4 (entry a b c d ++ r) 12 ≡ d)
  unfolding entry number4 at4
  entry_reads = (whole a ha, whole b hb, whole c hc, whole d hd)

pub header_reads : (n : ℕ) (r : List ℕ) → n ≤ 1000
    → (at4 (header n ++ r) 0 ≡ 1) × (at4 (header n ++ r) 4 ≡ n) × (at4 (header n ++ r) 8 ≡ 20) × (at4 (header n ++ r) 12 ≡ 20 + 16 * n) × (at4 (header n ++ r) 16 ≡ 20 + 23056 * n)
unfolding header number4 at4
header_reads n r h = (refl, whole n (omega arith), refl, whole (20 + 16 * n) (omega arith), whole (20 + 23056 * n) (omega arith))

pub header_length : (n : ℕ) → length (header n) ≡ 20
unfolding header number4
header_length n = refl

pub entry_length : (a b c d : ℕ) → length (entry a b c d) ≡ 16
unfolding entry number4
entry_length a b c d = refl

-- ---- an archive of n good frames

module _ (f : ℕ → Frame) (n : ℕ) (few : n ≤ 1000) (good : (k : ℕ) → k < n → Good (f k)) where
  row_entry : (k : ℕ) → k < n → length (entry_row f n k) ≡ 16
  unfolding entry_row
  row_entry k l = entry_length (f k).bench (f k).number (shown_of (f k)) (picture_offset n k)

  row_picture : (k : ℕ) → k < n → length (picture_row f k) ≡ 23040
  unfolding picture_row
  row_picture k l = simp (length-append, zeros_length) (omega (arith, (good k l).size, shown_most (shown_of (f k)) (good k l).shown))

  entries_length : length (header n ++ rows (entry_row f n) n) ≡ 20 + 16 * n
  entries_length = rw (length-append, header_length, rows_length (entry_row f n) 16 n row_entry)

  pub archive_length : length (written f n) ≡ 20 + 23056 * n
  unfolding written
  archive_length = rw (length-append (header n ++ rows (entry_row f n) n) (rows (picture_row f) n), entries_length, rows_length (picture_row f) 23040 n row_picture) (omega arith)

  pub archive_numbers : (at4 (written f n) 0 ≡ 1) × (count_of (written f n) ≡ n) × (at4 (written f n) 8 ≡ 20) × (at4 (written f n) 12 ≡ 20 + 16 * n) × (at4 (written f n) 16 ≡ 20 + 23056 * n)
  unfolding written count_of
  archive_numbers = rw append_assoc (header_reads n (rows (entry_row f n) n ++ rows (picture_row f) n) few)

  -- what stands from an entry on, and from a picture on
  archive_entry : (k : ℕ) → k < n → drop (entry_offset k) (written f n) ≡ entry_row f n k ++ drop (16 * k + 16) (rows (entry_row f n) n ++ rows (picture_row f) n)
  unfolding written entry_offset
  archive_entry k l =
      rw append_assoc
      (drop_past (header n) (rows (entry_row f n) n ++ rows (picture_row f) n) 20 (16 * k) (header_length n)
      ∙ rows_at (entry_row f n) 16 n k (rows (picture_row f) n) row_entry l)

  pub archive_picture : (k : ℕ) → k < n → drop (picture_offset n k) (written f n) ≡ picture_row f k ++ drop (23040 * k + 23040) (rows (picture_row f) n)
  unfolding written picture_offset
  archive_picture k l =
      drop_past (header n ++ rows (entry_row f n) n) (rows (picture_row f) n) (20 + 16 * n) (23040 * k) entries_length
      ∙ rw append-nil at (rows_at (picture_row f) 23040 n k [] row_picture l)

  offset_small : (k : ℕ) → k < n → picture_offset n k < 4294967296
  unfolding picture_offset
  offset_small k l = omega arith

  -- the numbers of an entry
  pub archive_fields : (k : ℕ) → k < n
      → (bench_at (written f n) k ≡ (f k).bench) × (number_at (written f n) k ≡ (f k).number) × (shown_at (written f n) k ≡ shown_of (f k)) × (offset_at (written f n) k ≡ picture_offset n k)
  unfolding bench_at number_at shown_at offset_at entry_row
  archive_fields k l =
      let g = good k l in
      let place : picture_offset n k < 4294967296 = offset_small k l in
      let e = entry_reads (f k).bench (f k).number (shown_of (f k)) (picture_offset n k) (drop (16 * k + 16) (rows (entry_row f n) n ++ rows (picture_row f) n))
      (omega (arith, bench_most (f k).bench g.bench)) g.number (omega (arith, shown_most (shown_of (f k)) g.shown)) place in
      let d = archive_entry k l in
      let at : (i : ℕ) → at4 (written f n) (entry_offset k + i) ≡ at4 (entry_row f n k ++ drop (16 * k + 16) (rows (entry_row f n) n ++ rows (picture_row f) n)) i =
      λ i. sym (at_drop (written f n) (entry_offset k) i) ∙ ap (λ (x : List ℕ). at4 x i) d in
      (rw add-zero at (at 0) ∙ e.0, at 4 ∙ e.1, at 8 ∙ e.2, at 12 ∙ e.3)

  pub archive_lines : (k : ℕ) → k < n → lines_at (written f n) k ≡ (f k).lines
  unfolding lines_at picture_row
  archive_lines k l =
      rw ((archive_fields k l).2, (archive_fields k l).3, archive_picture k l, append_assoc)
      (take_at (f k).lines _ (shown_of (f k) * 90) (good k l).size)

  pub archive_frame : (k : ℕ) → k < n → frame_at (written f n) k ≡ f k
  unfolding frame_at
  archive_frame k l = rw ((archive_fields k l).0, (archive_fields k l).1, archive_lines k l)

  -- its picture is zero behind the shown lines
  archive_blank : (k i : ℕ) → k < n → i < 23040 - shown_of (f k) * 90 → get_or (written f n) (picture_offset n k + shown_of (f k) * 90 + i) 0 ≡ 0
  unfolding picture_row
  archive_blank k i l h =
      let e = (good k l).size in
      let m : ℕ = 23040 - length (f k).lines in
      let rest : List ℕ = drop (23040 * k + 23040) (rows (picture_row f) n) in
      let p : i < length (zeros (23040 - length (f k).lines)) = rw zeros_length (omega arith) in
      rw (add_assoc, ← get_or-drop (picture_offset n k) (written f n) (shown_of (f k) * 90 + i) 0, archive_picture k l, append_assoc, ← e, get_or-append-add (f k).lines (zeros m ++ rest) i 0)
      (get_or-append (zeros m) rest 0 i p ∙ zeros_at m i)

  archive_tail : (k : ℕ) → k < n → every (is_zero (written f n) (picture_offset n k + shown_of (f k) * 90)) 0 (23040 - shown_of (f k) * 90) ≡ true
  unfolding is_zero
  archive_tail k l = below_all (is_zero (written f n) (picture_offset n k + shown_of (f k) * 90)) (23040 - shown_of (f k) * 90) (λ i m. rw (archive_blank k i l m))

  archive_header : header_sound (written f n) ≡ true
  unfolding header_sound header_good header_of count_of
  archive_header =
      let e = archive_numbers in
      rw (archive_length, e.0, e.1, e.2, e.3, e.4, le-leb n 1000 few, eq-eqb (20 + 16 * n) (20 + 16 * n) refl, eq-eqb (20 + 23056 * n) (20 + 23056 * n) refl)

  archive_entry_sound : ((k : ℕ) → k < n → fresh f k ≡ true) → (k : ℕ) → k < n → entry_sound (written f n) k ≡ true
  unfolding entry_sound entry_good entry_of rest_zero
  archive_entry_sound new k l =
      let e = archive_fields k l in
      let g = good k l in
      let b : every (is_zero (written f n) (picture_offset n k + shown_of (f k) * 90)) 0 (23040 - shown_of (f k) * 90) ≡ true = archive_tail k l in
      rw (e.0, e.2, e.3, archive_numbers.1, g.bench, g.shown, eq-eqb (picture_offset n k) (picture_offset n k) refl, b, fresh_same (frame_at (written f n)) f n archive_frame k l, new k l)

  pub archive_sound : ((k : ℕ) → k < n → fresh f k ≡ true) → sound (written f n) ≡ true
  unfolding sound
  archive_sound new = rw (archive_header, archive_numbers.1, below_all (entry_sound (written f n)) n (archive_entry_sound new))

  -- and its frames are those that were written
  pub archive_frames : frames_of (written f n) ≡ listing f n
  unfolding frames_of
  archive_frames = rw archive_numbers.1 (listing_same (frame_at (written f n)) f n archive_frame)

-- "Writing a list of frames, none refused, and reading it back gives the list"
module _ (fs : List Frame) (h : storable fs ≡ true) where
  pub few_of : length fs ≤ 1000
  unfolding storable
  few_of = leb-true (length fs) 1000 (both (leb (length fs) 1000) (every (frame_storable (frame_in fs)) 0 (length fs)) h).0

  pub frame_of_lem : (k : ℕ) → k < length fs → (frame_good (frame_in fs k) ≡ true) × (fresh (frame_in fs) k ≡ true)
  unfolding storable frame_storable
  frame_of_lem k l =
      both (frame_good (frame_in fs k)) (fresh (frame_in fs) k)
      (below_at (frame_storable (frame_in fs)) (length fs) k (both (leb (length fs) 1000) (every (frame_storable (frame_in fs)) 0 (length fs)) h).1 l)

  pub good_in : (k : ℕ) → k < length fs → Good (frame_in fs k)
  good_in k l = good_of (frame_in fs k) (frame_of_lem k l).0

  pub written_sound : sound (archive_of fs) ≡ true
  unfolding archive_of
  written_sound = archive_sound (frame_in fs) (length fs) few_of good_in (λ k l. (frame_of_lem k l).1)

  pub written_read : frames_of (archive_of fs) ≡ fs
  unfolding archive_of
  written_read = archive_frames (frame_in fs) (length fs) few_of good_in ∙ listing_back fs
