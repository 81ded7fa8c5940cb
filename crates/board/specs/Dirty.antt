-- The dirty lines: document 01, "A step notes shown line L exactly if, comparing before and after it: ..".
use Rattle.std.specs.Prelude.{ℕ, Bool, ◌&&◌, ◌||◌, List}
use Rattle.lineset.specs.declared.LineSet.{LineSet}
use Rattle.lineset.specs.Lines.{set_of, member, is_shown}
use Rattle.scanline.specs.Drawing.{View, changed}
use Rattle.board.specs.declared.record.Board.{Board}
use Rattle.board.specs.Record.{view_of, with_dirty}

-- whether a step marks a line, which is then dirty (document 01: noted): it is shown, and one of the four differences holds
unfoldable pub marked : ℕ → View → View → ℕ → Bool
marked rate before after L = is_shown rate L && changed before after L

-- the dirty lines after a step
unfoldable pub dirty_after : LineSet → ℕ → View → View → LineSet
dirty_after d rate before after = set_of (λ (L : ℕ). member d L || marked rate before after L)

-- a record and RAM before a step, and after it but for its dirty lines: the record with them
abbrev pub with_marks : Board → List ℕ → Board → List ℕ → Board
with_marks b ram b' ram' = with_dirty b' (dirty_after b.dirty b.rate (view_of b ram) (view_of b' ram'))
