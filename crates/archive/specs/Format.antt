-- An archive (document 02: a book of frames): the format, as it is written. Document 02, request [1].
use Rattle.std.specs.Prelude.{ℕ, zero, suc, ◌+◌, ◌-◌, ◌*◌, ◌/◌, List, [], ◌∷◌, ◌++◌, length, get_or}
use Rattle.byte_rows.specs.Rows.{rows, zeros}
use Rattle.byte_rows.specs.Numbers.{number4}

-- "A frame is its bench, number and shown lines": the bytes of these
pub record Frame : Type 0 where
  pub bench : ℕ
  pub number : ℕ
  pub lines : List ℕ

-- how many lines of 90 bytes are shown
unfoldable pub shown_of : Frame → ℕ
shown_of f = length f.lines / 90

-- "Header: form 1, count n (0 to 1,000), offset of entries (20), offset of pictures (20 + 16n), whole length (20 + 23,056n)"
unfoldable pub header : ℕ → List ℕ
header n = number4 1 ++ number4 n ++ number4 20 ++ number4 (20 + 16 * n) ++ number4 (20 + 23056 * n)

-- "Each entry: bench, frame number, shown lines, offset of its picture"
unfoldable pub entry : ℕ → ℕ → ℕ → ℕ → List ℕ
entry bench number shown offset = number4 bench ++ number4 number ++ number4 shown ++ number4 offset

-- "pictures follow in entry order": where entry k stands, and picture k of n
unfoldable pub entry_offset : ℕ → ℕ
entry_offset k = 20 + 16 * k

unfoldable pub picture_offset : ℕ → ℕ → ℕ
picture_offset n k = 20 + 16 * n + 23040 * k

-- the entry and the picture of frame k, of n frames that are given by their index; "unshown lines zero"
unfoldable pub entry_row : (ℕ → Frame) → ℕ → ℕ → List ℕ
entry_row f n k = entry (f k).bench (f k).number (shown_of (f k)) (picture_offset n k)

unfoldable pub picture_row : (ℕ → Frame) → ℕ → List ℕ
picture_row f k = (f k).lines ++ zeros (23040 - length (f k).lines)

unfoldable pub written : (ℕ → Frame) → ℕ → List ℕ
written f n = header n ++ rows (entry_row f n) n ++ rows (picture_row f) n

-- the frames of a list by their index, and back
abbrev pub no_frame : Frame
no_frame = record { bench = 0; number = 0; lines = [] }

unfoldable pub frame_in : List Frame → ℕ → Frame
frame_in fs k = get_or fs k no_frame

unfoldable pub listing : (ℕ → Frame) → ℕ → List Frame
listing f zero = []
listing f (suc n) = listing f n ++ (f n ∷ [])

-- the archive of a list of frames
unfoldable pub archive_of : List Frame → List ℕ
archive_of fs = written (frame_in fs) (length fs)
