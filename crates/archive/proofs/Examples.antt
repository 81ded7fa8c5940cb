-- The format at numbers: what stands where, byte by byte.
-- Assumes nothing.
use mathlib.Core.Path.{◌≡◌, refl}
use mathlib.Core.Bool.{true, false}
use mathlib.Core.List.{[], ◌∷◌}
use Rattle.facts.specs.Tests.{every}
use Rattle.byte_rows.specs.Numbers.{number4, at4}
use Rattle.byte_rows.specs.Rows.{rows}
use Rattle.archive.specs.Format.{header, entry, picture_offset, written, archive_of}
use Rattle.archive.specs.Sound.{good_bench, good_shown, header_good, header_sound, header_of, count_of, sound}

-- "all numbers four bytes, low first"
pub low_first : number4 0x01020304 ≡ 4 ∷ 3 ∷ 2 ∷ 1 ∷ []
unfolding number4
low_first = refl

pub read_low_first : at4 (4 ∷ 3 ∷ 2 ∷ 1 ∷ []) 0 ≡ 0x01020304
unfolding at4
read_low_first = refl

-- the archive of no frames: form 1, none, 20, 20, 20; and it is sound
pub no_frames : archive_of [] ≡ 1 ∷ 0 ∷ 0 ∷ 0 ∷ 0 ∷ 0 ∷ 0 ∷ 0 ∷ 20 ∷ 0 ∷ 0 ∷ 0 ∷ 20 ∷ 0 ∷ 0 ∷ 0 ∷ 20 ∷ 0 ∷ 0 ∷ 0 ∷ []
unfolding archive_of written header number4 rows
no_frames = refl

pub no_frames_sound : sound (1 ∷ 0 ∷ 0 ∷ 0 ∷ 0 ∷ 0 ∷ 0 ∷ 0 ∷ 20 ∷ 0 ∷ 0 ∷ 0 ∷ 20 ∷ 0 ∷ 0 ∷ 0 ∷ 20 ∷ 0 ∷ 0 ∷ 0 ∷ []) ≡ true
unfolding sound header_sound header_good header_of count_of at4 every
no_frames_sound = refl

-- of 1,000 frames: pictures from 16,020 on, 23,056,020 bytes in all
pub full_header : header 1000 ≡ 1 ∷ 0 ∷ 0 ∷ 0 ∷ 0xE8 ∷ 3 ∷ 0 ∷ 0 ∷ 20 ∷ 0 ∷ 0 ∷ 0 ∷ 0x94 ∷ 0x3E ∷ 0 ∷ 0 ∷ 0x94 ∷ 0xCE ∷ 0x5F ∷ 1 ∷ []
unfolding header number4
full_header = refl

-- bench 12, number 345, 200 lines, the second picture of three: at 20 + 48 + 23,040
pub an_entry : entry 12 345 200 (picture_offset 3 1) ≡ 12 ∷ 0 ∷ 0 ∷ 0 ∷ 0x59 ∷ 1 ∷ 0 ∷ 0 ∷ 200 ∷ 0 ∷ 0 ∷ 0 ∷ 0x44 ∷ 0x5A ∷ 0 ∷ 0 ∷ []
unfolding entry picture_offset number4
an_entry = refl

-- "bench (1 to 65,535)", "shown lines (200 or 256)"
pub benches : (good_bench 0 ≡ false) × (good_bench 1 ≡ true) × (good_bench 65535 ≡ true) × (good_bench 65536 ≡ false)
unfolding good_bench
benches = (refl, refl, refl, refl)

pub shown_lines : (good_shown 199 ≡ false) × (good_shown 200 ≡ true) × (good_shown 255 ≡ false) × (good_shown 256 ≡ true)
unfolding good_shown
shown_lines = (refl, refl, refl, refl)
