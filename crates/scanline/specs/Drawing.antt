-- What a scan line shows, and when it changes: document 01, "Scan lines".
use Rattle.std.specs.Prelude.{ℕ, ◌+◌, ◌-◌, ◌*◌, ◌/◌, ◌%◌, Bool, cond, not, ◌||◌, List, eqb, get_or}
use Rattle.facts.specs.Tests.{any}
use Rattle.paging.specs.Memory.{index_of}
use Rattle.scanline.specs.declared.Pointer.{Pointer}
use Rattle.scanline.specs.declared.Video.{Video}
use Rattle.scanline.specs.Pointers.{entry_index, pointer_word, pointer_of}

-- "Byte i of a line is at block x 16,384 + start + 8i, taken mod 131,072." "From block 7 a line runs on into block 0 (house)."
-- (document 02, [2], in place of document 01's wrap in the block)
unfoldable pub pixel_index : Pointer → ℕ → ℕ
pixel_index p i = (index_of p.block p.start + 8 * i) % 131072

-- "A picture is 256 lines of 90 bytes, 23,040 bytes"
unfoldable pub picture_fits : ℕ → Bool
picture_fits length = eqb length 23040

-- what the picture is made from: F5, F6, F7 and the RAM
pub record View : Type 0 where
  pub video : Video
  pub ram : List ℕ

-- "Drawn byte: the RAM byte if F7 D6 is set, else 0; then every bit inverted if D7 is set."
unfoldable pub drawn_byte : ℕ → ℕ → ℕ
drawn_byte control byte = cond (eqb (control / 128 % 2) 1) (255 - cond (eqb (control / 64 % 2) 1) byte 0) (cond (eqb (control / 64 % 2) 1) byte 0)

unfoldable pub word_at : View → ℕ → ℕ
word_at v line = pointer_word v.ram v.video.table v.video.top line

-- the index of pixel byte i of a line
unfoldable pub pixel_at : View → ℕ → ℕ → ℕ
pixel_at v line i = pixel_index (pointer_of (word_at v line)) i

-- byte i of a line as it is drawn
unfoldable pub drawn : View → ℕ → ℕ → ℕ
drawn v line i = drawn_byte v.video.control (get_or v.ram (pixel_at v line i) 0)

-- "F5 or F6 differs; or F7 D7 or D6 differs"
unfoldable pub video_differs : Video → Video → Bool
video_differs v w = not (eqb v.table w.table) || (not (eqb v.top w.top) || not (eqb (v.control / 64) (w.control / 64)))

-- "or L's pointer word differs; or a byte at one of the 90 places named by the pointer before differs"
unfoldable pub ram_differs : View → View → ℕ → Bool
ram_differs a b line =
    not (eqb (word_at a line) (word_at b line)) || any (λ (i : ℕ). not (eqb (get_or a.ram (pixel_at a line i) 0) (get_or b.ram (pixel_at a line i) 0))) 0 90

-- whether a line is to be drawn again between two moments: the four differences
unfoldable pub changed : View → View → ℕ → Bool
changed a b line = video_differs a.video b.video || ram_differs a b line

-- whether an index is one of the 90 pixel bytes that a pointer word names
unfoldable pub pixel_touched : ℕ → ℕ → Bool
pixel_touched word at = any (λ (i : ℕ). eqb at (pixel_index (pointer_of word) i)) 0 90

-- whether an index is one of the two pointer bytes of a line or one of its 90 pixel bytes
unfoldable pub touches : List ℕ → ℕ → ℕ → ℕ → ℕ → Bool
touches ram table top at line =
    eqb at (entry_index table top line) || (eqb at (entry_index table top line + 1) || pixel_touched (pointer_word ram table top line) at)
