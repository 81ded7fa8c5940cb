-- Archives as they are read, which of them are sound, and which lists of frames can be stored. Document 02, request [1].
use Rattle.std.specs.Prelude.{ℕ, ◌+◌, ◌-◌, ◌*◌, Bool, not, ◌&&◌, ◌||◌, List, eqb, leb, ltb, length, get_or, take, drop}
use Rattle.facts.specs.Tests.{every}
use Rattle.byte_rows.specs.Numbers.{at4}
use Rattle.archive.specs.declared.numbers.Header.{Header}
use Rattle.archive.specs.declared.numbers.Entry.{Entry}
use Rattle.archive.specs.Format.{Frame, entry_offset, picture_offset, frame_in, listing}

-- ---- reading, by offsets

unfoldable pub count_of : List ℕ → ℕ
count_of a = at4 a 4

unfoldable pub header_of : List ℕ → Header
header_of a = record { form = at4 a 0; count = at4 a 4; entries = at4 a 8; pictures = at4 a 12; end = at4 a 16 }

-- the numbers of entry k
unfoldable pub bench_at : List ℕ → ℕ → ℕ
bench_at a k = at4 a (entry_offset k)

unfoldable pub number_at : List ℕ → ℕ → ℕ
number_at a k = at4 a (entry_offset k + 4)

unfoldable pub shown_at : List ℕ → ℕ → ℕ
shown_at a k = at4 a (entry_offset k + 8)

unfoldable pub offset_at : List ℕ → ℕ → ℕ
offset_at a k = at4 a (entry_offset k + 12)

unfoldable pub entry_of : List ℕ → ℕ → Entry
entry_of a k = record { bench = bench_at a k; number = number_at a k; shown = shown_at a k; offset = offset_at a k }

-- frame k, and the list of frames
unfoldable pub lines_at : List ℕ → ℕ → List ℕ
lines_at a k = take (shown_at a k * 90) (drop (offset_at a k) a)

unfoldable pub frame_at : List ℕ → ℕ → Frame
frame_at a k = record { bench = bench_at a k; number = number_at a k; lines = lines_at a k }

unfoldable pub frames_of : List ℕ → List Frame
frames_of a = listing (frame_at a) (count_of a)

-- ---- sound archives

-- "bench (1 to 65,535)"; "shown lines (200 or 256)"
unfoldable pub good_bench : ℕ → Bool
good_bench n = leb 1 n && leb n 65535

unfoldable pub good_shown : ℕ → Bool
good_shown n = eqb n 200 || eqb n 256

-- "A bench and frame number pair stands once": frame j has the pair; none before frame k has the pair of frame k
unfoldable pub has_pair : (ℕ → Frame) → ℕ → ℕ → ℕ → Bool
has_pair f bench number j = eqb (f j).bench bench && eqb (f j).number number

unfoldable pub is_new : (ℕ → Frame) → ℕ → ℕ → ℕ → Bool
is_new f bench number n = every (λ (j : ℕ). not (has_pair f bench number j)) 0 n

unfoldable pub fresh : (ℕ → Frame) → ℕ → Bool
fresh f k = is_new f (f k).bench (f k).number k

-- "form 1, count n (0 to 1,000), offset of entries (20), offset of pictures (20 + 16n), whole length (20 + 23,056n)"; it "fills what is
-- lent"
unfoldable pub header_good : Header → ℕ → Bool
header_good h size =
    eqb h.form 1 && leb h.count 1000 && eqb h.entries 20 && eqb h.pictures (20 + 16 * h.count)
    && eqb h.end (20 + 23056 * h.count) && eqb size (20 + 23056 * h.count)

unfoldable pub header_sound : List ℕ → Bool
header_sound a = header_good (header_of a) (length a)

-- "unshown lines zero": byte i from an index on is zero; the bytes behind the shown lines of picture k are
unfoldable pub is_zero : List ℕ → ℕ → ℕ → Bool
is_zero a from i = eqb (get_or a (from + i) 0) 0

unfoldable pub rest_zero : List ℕ → ℕ → Bool
rest_zero a k = every (is_zero a (offset_at a k + shown_at a k * 90)) 0 (23040 - shown_at a k * 90)

-- fields in range, and the offset that its picture must have
unfoldable pub entry_good : Entry → ℕ → Bool
entry_good e offset = good_bench e.bench && good_shown e.shown && eqb e.offset offset

unfoldable pub entry_sound : List ℕ → ℕ → Bool
entry_sound a k = entry_good (entry_of a k) (picture_offset (count_of a) k) && rest_zero a k && fresh (frame_at a) k

unfoldable pub sound : List ℕ → Bool
sound a = header_sound a && every (entry_sound a) 0 (count_of a)

-- ---- lists of frames that can be stored

-- "bench (1 to 65,535)", a number of four bytes, "shown lines (200 or 256)" of 90 bytes each; lines are bytes, as lent memory is
unfoldable pub frame_good : Frame → Bool
frame_good f = good_bench f.bench && ltb f.number 4294967296 && (eqb (length f.lines) 18000 || eqb (length f.lines) 23040)

-- "A bench and frame number pair stands once"
unfoldable pub frame_storable : (ℕ → Frame) → ℕ → Bool
frame_storable f k = frame_good (f k) && fresh f k

-- "count n (0 to 1,000)"
unfoldable pub storable : List Frame → Bool
storable fs = leb (length fs) 1000 && every (frame_storable (frame_in fs)) 0 (length fs)
