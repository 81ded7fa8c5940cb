-- How `archive_add` puts the next archive down, for its own functions: header and entries, the old pictures, the new one. What the next
-- archive is, `Adding.antt` says.
use Rattle.std.specs.Prelude.{ℕ, ◌+◌, ◌-◌, List, ◌++◌, take}
use Rattle.byte_rows.specs.Rows.{rows, zeros}
use Rattle.archive.specs.Format.{entry, header, picture_offset}
use Rattle.archive.specs.Sound.{bench_at, number_at, shown_at}

-- entry k, its picture's offset that of an archive of m
unfoldable pub moved_row : List ℕ → ℕ → ℕ → List ℕ
moved_row a m k = entry (bench_at a k) (number_at a k) (shown_at a k) (picture_offset m k)

-- header and entries, of n frames and one more
unfoldable pub next_entries : List ℕ → ℕ → ℕ → ℕ → ℕ → List ℕ
next_entries a n bench number shown = header (n + 1) ++ rows (moved_row a (n + 1)) n ++ entry bench number shown (picture_offset (n + 1) n)

-- the shown lines of a picture, and zeros
unfoldable pub padded : List ℕ → ℕ → List ℕ
padded picture used = take used picture ++ zeros (23040 - used)
