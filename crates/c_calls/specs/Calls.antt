-- What the C functions give for a step, power-on and pictures: results packed in one number.
use Rattle.std.specs.Prelude.{ℕ, ◌+◌, ◌*◌, Option, None, Some}
use mir.Val.{bool_byte}
use Rattle.board_power.specs.Power.{PowerOn}
use Rattle.step_rules.specs.Answers.{Reply}
use Rattle.picture.specs.Pictures.{DrawAnswer, RefreshAnswer, NextAnswer}
use Rattle.picture_compare.specs.declared.Position.{Position}
use Rattle.picture_compare.specs.Differences.{Difference}
use Rattle.c_numbers.specs.Packing.{reply}

unfoldable pub step_reply : Reply → ℕ
step_reply r = reply r.byte (bool_byte r.int + (2 * bool_byte r.nmi + 4 * bool_byte r.forwarded)) r.refusal 0

unfoldable pub power_on_reply : PowerOn → ℕ
power_on_reply p = reply 0 0 p.refusal 0

unfoldable pub draw_reply : DrawAnswer → ℕ
draw_reply d = reply 0 (8 * bool_byte d.floating) d.refusal 0

unfoldable pub refresh_reply : RefreshAnswer → ℕ
refresh_reply r = reply r.count (8 * bool_byte r.floating) r.refusal 0

-- a line found, or none
unfoldable pub line_reply : Option ℕ → ℕ → ℕ
line_reply (Some line) refusal = reply line 16 refusal 0
line_reply None refusal = reply 0 0 refusal 0

unfoldable pub next_reply : NextAnswer → ℕ
next_reply n = line_reply n.line n.refusal

-- a line and a pixel of it, or none
unfoldable pub position_reply : Option Position → ℕ → ℕ
position_reply (Some p) refusal = reply p.line 16 refusal p.pixel
position_reply None refusal = reply 0 0 refusal 0

unfoldable pub difference_reply : Difference → ℕ
difference_reply d = position_reply d.position d.refusal
