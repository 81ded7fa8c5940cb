-- Pictures: drawing, refreshing, and the next dirty line. Document 01, "Scan lines" and "Refusal numbers".
-- A picture is 256 lines of 90 bytes, leftmost pixel in the top bit.
use Rattle.std.specs.Prelude.{ℕ, ◌-◌, ◌/◌, ◌%◌, Bool, false, cond, ◌&&◌, Option, None, Result, List, [], ◌∷◌, eqb, leb, length}
use Rattle.refusal.specs.declared.Refusal.{Refusal}
use Rattle.refusal.specs.Numbers.{answered}
use Rattle.facts.specs.Tests.{first_of}
use Rattle.facts.specs.Lists.{overlaid}
use Rattle.lineset.specs.Lines.{set_of, member, count_of, is_shown}
use Rattle.paging.specs.declared.Sizes.{Sizes}
use Rattle.paging.specs.Maps.{ram_fits}
use Rattle.scanline.specs.Drawing.{View, drawn, picture_fits}
use Rattle.board.specs.declared.record.Board.{Board}
use Rattle.board.specs.Record.{record_refusal, first_refusal, view_of, with_dirty}
use Rattle.picture.specs.declared.Drawn.{Drawn}
use Rattle.picture.specs.declared.Refreshed.{Refreshed}

-- a picture with some of its lines drawn
unfoldable pub painted : (ℕ → Bool) → View → List ℕ → List ℕ
painted lines v picture = overlaid (λ (k : ℕ). lines (k / 90)) (λ (k : ℕ). drawn v (k / 90) (k % 90)) picture

-- "2 a lent buffer has the wrong length", after "1 the record is not good"
unfoldable pub picture_length_refusal : Sizes → ℕ → ℕ → ℕ
picture_length_refusal sizes ram_length picture_length = cond (ram_fits sizes ram_length && picture_fits picture_length) 0 2

unfoldable pub picture_refusal : Board → ℕ → ℕ → ℕ
picture_refusal b ram_length picture_length = first_refusal (record_refusal b ∷ picture_length_refusal b.sizes ram_length picture_length ∷ [])

-- of the record and of the lent RAM alone
unfoldable pub lent_refusal : Board → ℕ → ℕ
lent_refusal b ram_length = first_refusal (record_refusal b ∷ cond (ram_fits b.sizes ram_length) 0 2 ∷ [])

-- the video floats: it is not driven
unfoldable pub is_floating : Board → Bool
is_floating b = eqb b.driven 0

-- what draw reports: whether the video floats, and the refusal number or 0
pub record DrawAnswer : Type 0 where
  pub floating : Bool
  pub refusal : ℕ

-- "Draw writes all shown lines and leaves the record"; "Floating changes no pixel; draw and refresh report it beside their result."
unfoldable pub draw_answer : Board → List ℕ → List ℕ → DrawAnswer
draw_answer b ram picture = record {
  floating = eqb (picture_refusal b (length ram) (length picture)) 0 && is_floating b;
  refusal = picture_refusal b (length ram) (length picture);
}

unfoldable pub draw_picture : Board → List ℕ → List ℕ → List ℕ
draw_picture b ram picture =
    cond (eqb (picture_refusal b (length ram) (length picture)) 0) (painted (is_shown b.rate) (view_of b ram) picture) picture

-- what refresh reports: the record, how many lines were drawn, whether the video floats, and the refusal number or 0
pub record RefreshAnswer : Type 0 where
  pub board : Board
  pub count : ℕ
  pub floating : Bool
  pub refusal : ℕ

-- "Refresh writes the noted lines, reports how many, clears the notes."
unfoldable pub refresh_answer : Board → List ℕ → List ℕ → RefreshAnswer
refresh_answer b ram picture =
    cond (eqb (picture_refusal b (length ram) (length picture)) 0)
    (record { board = with_dirty b (set_of (λ (L : ℕ). false)); count = count_of (member b.dirty) 0 256; floating = is_floating b; refusal = 0 })
    (record { board = b; count = 0; floating = false; refusal = picture_refusal b (length ram) (length picture) })

unfoldable pub refresh_picture : Board → List ℕ → List ℕ → List ℕ
refresh_picture b ram picture =
    cond (eqb (picture_refusal b (length ram) (length picture)) 0) (painted (member b.dirty) (view_of b ram) picture) picture

-- "the first noted line at or after n, or none"; "3 .. n over 255"
unfoldable pub next_refusal : Board → ℕ → ℕ
next_refusal b n = first_refusal (record_refusal b ∷ cond (leb n 255) 0 3 ∷ [])

-- the line, if there is one, and the refusal number or 0
pub record NextAnswer : Type 0 where
  pub line : Option ℕ
  pub refusal : ℕ

unfoldable pub next_answer : Board → ℕ → NextAnswer
next_answer b n = record {
  line = cond (eqb (next_refusal b n) 0) (first_of (member b.dirty) n (256 - n)) None;
  refusal = next_refusal b n;
}

-- ---- the same as the code has it, where a refusal stands in place of an answer

abbrev pub draw_result : DrawAnswer → Result Drawn Refusal
draw_result a = answered a.refusal (record { floating = a.floating })

abbrev pub refresh_result : RefreshAnswer → Result Refreshed Refusal
refresh_result a = answered a.refusal (record { board = a.board; count = a.count; floating = a.floating })

abbrev pub next_result : NextAnswer → Result (Option ℕ) Refusal
next_result a = answered a.refusal a.line
