-- The parts of an archive, put down in lent room.
-- Assumes nothing.
use Prim.Native.Nat.{ℕ, zero, suc, ◌+◌, ◌-◌, ◌*◌, ◌/◌, ◌≤◌, ◌<◌}
use native.Mathlib.Nat.{add-zero}
use native.Mathlib.Numerals.{add-one}
use native.Mathlib.Omega.{arith}
use mathlib.Core.Path.{◌≡◌, refl, sym, ap, ◌∙◌}
use mathlib.Core.List.{List, [], ◌∷◌, ◌++◌, append_assoc, append-nil}
use lib.ListN.{length, take, drop, replicate, length-append, length-drop, take-append-drop, get_or-append}
use lib.Seq.{length-take-le, get_or_at, take_all, drop-drop}
use Rattle.facts.specs.Lists.{in_room}
use Rattle.facts.proofs.Rooms.{room_length}
use Rattle.byte_rows.specs.Rows.{put, copied, zeros, rows}
use Rattle.byte_rows.proofs.Rows.{copied_fits, rest_all, rows_length, put_put, put_start, put_length, room_put_at, rows_same, rows_take, zeros_length}
use Rattle.archive.specs.Format.{Frame, no_frame, frame_in, archive_of, written, shown_of, entry_row, picture_row, entry, header, picture_offset}
use Rattle.archive.specs.Sound.{frames_of, frame_at, count_of, entry_of, bench_at, number_at, shown_at}
use Rattle.byte_rows.specs.Numbers.{number4}
use Rattle.archive_add.specs.Adding.{frame_of}
use Rattle.archive_add.specs.Next.{moved_row, next_entries, padded}
use Rattle.archive.specs.declared.numbers.Entry.{Entry}
use Rattle.archive.proofs.Read.{SoundIs, frames_count, frames_at, picture_at, shown_is}
use Rattle.archive.proofs.Written.{entry_length, header_length}

-- ---- parts of lent room that are written on

pub placed : (out x : List ℕ) (to end : ℕ) → end ≡ to + length x → take to out ++ (x ++ drop (end - to) (drop to out)) ≡ put out to x
unfolding put
placed out x to end e =
    let m : to + (end - to) ≡ to + length x = omega arith in
    rw (drop-drop (end - to) to out, m) (sym (append_assoc (take to out) x (drop (to + length x) out)))

pub put_none : (out : List ℕ) (to : ℕ) → out ≡ put out to []
unfolding put
put_none out to = sym (rw (append-nil, add-zero) (take-append-drop to out))

-- ---- numbers

pub entry_put : (o p q r s : List ℕ) (to a b c d : ℕ) → to ≤ length o
    → p ≡ put o to (number4 a) → q ≡ put p (to + 4) (number4 b) → r ≡ put q (to + 8) (number4 c) → s ≡ put r (to + 12) (number4 d)
    → s ≡ put o to (entry a b c d)
unfolding entry number4
entry_put o p q r s to a b c d l e f g h =
    rw (
      h,
      g,
      f,
      e,
      put_put o to (to + 4) (number4 a) (number4 b) l refl,
      put_put o to (to + 8) (number4 a ++ number4 b) (number4 c) l refl,
      put_put o to (to + 12) (number4 a ++ number4 b ++ number4 c) (number4 d) l refl,
    )

pub header_put : (o p q r s t : List ℕ) (n d e : ℕ) → d ≡ 20 + 16 * n → e ≡ 20 + 23056 * n
    → p ≡ put o 0 (number4 1) → q ≡ put p 4 (number4 n) → r ≡ put q 8 (number4 20) → s ≡ put r 12 (number4 d) → t ≡ put s 16 (number4 e)
    → t ≡ in_room (header n) o
unfolding header number4
header_put o p q r s t n d e k l f g h i j =
    let z : 0 ≤ length o = omega arith in
    rw (
      j,
      i,
      h,
      g,
      f,
      k,
      l,
      put_put o 0 4 (number4 1) (number4 n) z refl,
      put_put o 0 8 (number4 1 ++ number4 n) (number4 20) z refl,
      put_put o 0 12 (number4 1 ++ number4 n ++ number4 20) (number4 (20 + 16 * n)) z refl,
      put_put o 0 16 (number4 1 ++ number4 n ++ number4 20 ++ number4 (20 + 16 * n)) (number4 (20 + 23056 * n)) z refl,
    )
    (put_start o (number4 1 ++ number4 n ++ number4 20 ++ number4 (20 + 16 * n) ++ number4 (20 + 23056 * n)))

-- ---- the entries of the next archive

pub moved_length : (b : List ℕ) (m n : ℕ) → length (rows (moved_row b m) n) ≡ 16 * n
unfolding moved_row
moved_length b m n = rows_length (moved_row b m) 16 n (λ k l. entry_length (bench_at b k) (number_at b k) (shown_at b k) (picture_offset m k))

pub moved_start : (b : List ℕ) (m : ℕ) (out : List ℕ) → out ≡ put out 20 (rows (moved_row b m) 0)
unfolding rows
moved_start b m out = put_none out 20

pub moved_turn : (b : List ℕ) (n k : ℕ) (start out next : List ℕ) (e : Entry) → 20 ≤ length start → out ≡ put start 20 (rows (moved_row b (n + 1)) k) → e ≡ entry_of b k
    → next ≡ put out (20 + 16 * k) (entry e.bench e.number e.shown (20 + 16 * (n + 1) + 23040 * k))
    → next ≡ put start 20 (rows (moved_row b (n + 1)) (k + 1))
unfolding rows moved_row picture_offset entry_of
moved_turn b n k start out next e h o is g =
    rw (g, o, is, add-one k)
    (put_put start 20 (20 + 16 * k) (rows (moved_row b (n + 1)) k) (entry (bench_at b k) (number_at b k) (shown_at b k) (20 + 16 * (n + 1) + 23040 * k)) h (omega (arith, moved_length b (n + 1) k)))

pub moved_size : (b : List ℕ) (m k : ℕ) (start out : List ℕ) → out ≡ put start 20 (rows (moved_row b m) k) → 20 + 16 * k ≤ length start → length out ≡ length start
moved_size b m k start out o h = ap length o ∙ put_length start 20 (rows (moved_row b m) k) (omega (arith, moved_length b m k))

pub next_entries_lem : (b : List ℕ) (n bench number shown : ℕ) (o p q r : List ℕ)
    → p ≡ in_room (header (n + 1)) o → q ≡ put p 20 (rows (moved_row b (n + 1)) n)
    → r ≡ put q (20 + 16 * n) (entry bench number shown (20 + 16 * (n + 1) + 23040 * n))
    → r ≡ in_room (next_entries b n bench number shown) o
unfolding next_entries picture_offset
next_entries_lem b n bench number shown o p q r e f g =
    let x : List ℕ = rows (moved_row b (n + 1)) n in
    let l : length (header (n + 1) ++ x) ≡ 20 + 16 * n = rw (length-append, header_length, moved_length) in
    rw (g, f, e, room_put_at (header (n + 1)) x o 20 (sym (header_length (n + 1))))
    (room_put_at (header (n + 1) ++ x) (entry bench number shown (20 + 16 * (n + 1) + 23040 * n)) o (20 + 16 * n) (sym l))

pub next_entries_length : (b : List ℕ) (n bench number shown : ℕ) → length (next_entries b n bench number shown) ≡ 20 + 16 * (n + 1)
unfolding next_entries
next_entries_length b n bench number shown =
    rw (length-append (header (n + 1) ++ rows (moved_row b (n + 1)) n), length-append, header_length, moved_length, entry_length) (omega arith)

zeros_are : (n : ℕ) → replicate n 0 ≡ zeros n
unfolding zeros
zeros_are zero = refl
zeros_are (suc n) = ap (λ (xs : List ℕ). 0 ∷ xs) (zeros_are n)

pub picture_put : (picture p y out : List ℕ) (used to : ℕ) → used ≤ length picture → used ≤ 23040 → to + 23040 ≤ length out
    → p ≡ copied out to (take used picture)
    → y ≡ replicate (length (take (to + 23040 - (to + used)) (drop (to + used) p))) 0
    → take (to + used) p ++ (y ++ drop (to + 23040 - (to + used)) (drop (to + used) p)) ≡ put out to (padded picture used)
unfolding padded
picture_put picture p y out used to h w l e f =
    let x : List ℕ = take used picture in
    let n : length x ≡ used = length-take-le used picture h in
    let i : p ≡ put out to x = e ∙ copied_fits out to x (rw n (omega arith)) in
    let v : length (put out to x) ≡ length out = put_length out to x (rw n (omega arith)) in
    let m : length (take (to + 23040 - (to + used)) (drop (to + used) (put out to x))) ≡ 23040 - used =
    length-take-le (to + 23040 - (to + used)) (drop (to + used) (put out to x)) (simp length-drop (omega (arith, v))) ∙ omega arith in
    let z : y ≡ zeros (23040 - used) = rw (i, m, zeros_are) at f in
    let k : length y ≡ 23040 - used = ap length z ∙ zeros_length (23040 - used) in
    let at : to + used ≡ to + length x = omega (arith, n) in
    let end : to + 23040 ≡ to + used + length y = omega (arith, k) in
    let both : put (put out to x) (to + used) y ≡ put out to (x ++ y) = put_put out to (to + used) x y (omega arith) at in
    let done : put out to (x ++ y) ≡ put out to (x ++ zeros (23040 - used)) = rw z in
    rw i (placed (put out to x) y (to + used) (to + 23040) end ∙ both ∙ done)

-- ---- the next archive

picture_same : (f g : ℕ → Frame) (k : ℕ) → f k ≡ g k → picture_row f k ≡ picture_row g k
unfolding picture_row
picture_same f g k e = rw e

archive_next : (f : ℕ → Frame) (n : ℕ)
    → written f (suc n) ≡ header (suc n) ++ (rows (entry_row f (suc n)) n ++ entry_row f (suc n) n) ++ (rows (picture_row f) n ++ picture_row f n)
unfolding written rows
archive_next f n = refl

module _ (b : List ℕ) (is : SoundIs b) (f : Frame) where
  next_count : length (frames_of b ++ (f ∷ [])) ≡ suc (count_of b)
  next_count = rw (length-append, frames_count b is) (omega arith)

  next_old : (k : ℕ) → k < count_of b → frame_in (frames_of b ++ (f ∷ [])) k ≡ frame_at b k
  unfolding frame_in
  next_old k l =
      let m : k < length (frames_of b) = rw (frames_count b is) l in
      get_or-append (frames_of b) (f ∷ []) no_frame k m ∙ frames_at b is k l

  next_new : frame_in (frames_of b ++ (f ∷ [])) (count_of b) ≡ f
  unfolding frame_in
  next_new = get_or_at (frames_of b) f [] no_frame (count_of b) (frames_count b is)

  old_pictures : rows (picture_row (frame_in (frames_of b ++ (f ∷ [])))) (count_of b) ≡ drop (20 + 16 * count_of b) b
  old_pictures =
      rows_same (picture_row (frame_in (frames_of b ++ (f ∷ [])))) (picture_row (frame_at b)) (count_of b) (λ k l. picture_same (frame_in (frames_of b ++ (f ∷ []))) (frame_at b) k (next_old k l))
      ∙ rows_take (picture_row (frame_at b)) 23040 b (20 + 16 * count_of b) (count_of b) (picture_at b is)
      ∙ take_all (23040 * count_of b) (drop (20 + 16 * count_of b) b) (simp length-drop (omega (arith, is.head.size)))

  old_entries : rows (entry_row (frame_in (frames_of b ++ (f ∷ []))) (count_of b + 1)) (count_of b) ≡ rows (moved_row b (count_of b + 1)) (count_of b)
  unfolding entry_row moved_row frame_at
  old_entries =
      rows_same (entry_row (frame_in (frames_of b ++ (f ∷ []))) (count_of b + 1)) (moved_row b (count_of b + 1)) (count_of b) (λ k l. rw (next_old k l, shown_is b is k l))

  new_entry : entry_row (frame_in (frames_of b ++ (f ∷ []))) (count_of b + 1) (count_of b) ≡ entry f.bench f.number (shown_of f) (picture_offset (count_of b + 1) (count_of b))
  unfolding entry_row
  new_entry = rw next_new

  new_picture : picture_row (frame_in (frames_of b ++ (f ∷ []))) (count_of b) ≡ f.lines ++ zeros (23040 - length f.lines)
  unfolding picture_row
  new_picture = rw next_new

  pub next_archive_lem : archive_of (frames_of b ++ (f ∷ []))
      ≡ next_entries b (count_of b) f.bench f.number (shown_of f) ++ drop (20 + 16 * count_of b) b ++ (f.lines ++ zeros (23040 - length f.lines))
  unfolding archive_of next_entries
  next_archive_lem =
      rw (next_count, archive_next (frame_in (frames_of b ++ (f ∷ []))) (count_of b), ← add-one (count_of b), old_entries, new_entry, old_pictures, new_picture)
      (simp append_assoc)

-- put down in its three parts
pub next_put : (b : List ℕ) (n bench number shown from end : ℕ) (picture : List ℕ) (o p q r : List ℕ) → SoundIs b → n ≡ count_of b → 20 + 23056 * (n + 1) ≤ length o
    → shown ≤ 256 → length picture ≡ 23040 → from ≡ 20 + 16 * (n + 1) → end ≡ from + 23040 * n → p ≡ in_room (next_entries b n bench number shown) o
    → q ≡ copied p from (take (length b - (20 + 16 * n)) (drop (20 + 16 * n) b))
    → r ≡ put q end (padded picture (shown * 90))
    → r ≡ in_room (archive_of (frames_of b ++ (frame_of bench number shown picture ∷ []))) o
unfolding padded frame_of shown_of
next_put b n bench number shown from end picture o p q r is at room h w s t e f g =
    let m : length (take (shown * 90) picture) ≡ shown * 90 = length-take-le (shown * 90) picture (omega arith) in
    let d : shown * 90 / 90 ≡ shown = omega arith in
    let x : List ℕ = next_entries b n bench number shown in
    let y : List ℕ = drop (20 + 16 * n) b in
    let i : length x ≡ from = next_entries_length b n bench number shown ∙ sym s in
    let v : length y ≡ 23040 * n = simp length-drop (omega (arith, is.head.size)) in
    let j : length (x ++ y) ≡ end = simp length-append (omega (arith, i, v)) in
    let fits : from + length y ≤ length (in_room x o) = rw (room_length x o (omega (arith, i))) (omega (arith, v)) in
    rw (next_archive_lem b is (frame_of bench number shown picture), m, d, ← at, g, f, e, rest_all b (20 + 16 * n), copied_fits (in_room x o) from y fits, room_put_at x y o from (sym i))
    (room_put_at (x ++ y) (padded picture (shown * 90)) o end (sym j))
