-- What a step answers, and when it is refused: document 01, "Steps" and "Refusal numbers".
use Rattle.std.specs.Prelude.{ℕ, Bool, false, cond, not, ◌&&◌, ◌||◌, List, [], ◌∷◌, eqb, leb, get_or, length, Ok, Err}
use Rattle.refusal.specs.Numbers.{named, answered}
use Rattle.paging.specs.declared.Sizes.{Sizes}
use Rattle.paging.specs.Maps.{ram_fits}
use Rattle.paging.specs.Memory.{read_index}
use Rattle.board.specs.declared.record.Board.{Board}
use Rattle.board.specs.Record.{record_refusal, first_refusal, with_disc}
use Rattle.step_rules.specs.declared.Answer as declared_answer
use Rattle.step_rules.specs.declared.Reply as declared_reply
use Rattle.step_rules.specs.declared.Effect.{Effect}
use Rattle.step_rules.specs.declared.Outcome.{Outcome}
use Rattle.step_rules.specs.declared.Step.{Step}
use Rattle.step_rules.specs.Kinds.{on_fetch, on_read, on_in, on_out, on_key}
use Rattle.step_rules.specs.Ports.{forwarded_in, forwarded_out, decoded_in, decoded_out, status_byte}
use Rattle.step_rules.specs.After.{ram_after, board_after}

-- ---- refusals

-- "The boot stream is lent too, at most 1,024 bytes."
unfoldable pub boot_fits : ℕ → Bool
boot_fits length = leb length 1024

-- "2 a lent buffer has the wrong length"
unfoldable pub length_refusal : Sizes → ℕ → ℕ → ℕ
length_refusal sizes ram_length boot_length = cond (ram_fits sizes ram_length && boot_fits boot_length) 0 2

-- what the step alone tells: "3 keyboard offset over 15", "5 not a channel of this board"
unfoldable pub kind_refusal : Step → ℕ
kind_refusal s =
    on_key s (λ offset value. cond (leb offset 15) 0 3)
    (on_in s (λ port. cond (decoded_in port) 0 5) (on_out s (λ port value. cond (decoded_out port) 0 5) 0))

-- what only the record knows: "4 fetch in boot mode, stream place at or past the stream's end"
unfoldable pub stream_ended : Board → ℕ → Step → Bool
stream_ended b boot_length s = on_fetch s (λ address. eqb b.boot.mode 1 && leb boot_length b.boot.at) false

unfoldable pub state_refusal : Board → ℕ → Step → ℕ
state_refusal b boot_length s = cond (stream_ended b boot_length s) 4 0

-- 1 and 2, then 3, 4 and 5, of which no kind has two
unfoldable pub lent_refusal : Board → ℕ → ℕ → ℕ
lent_refusal b ram_length boot_length = first_refusal (record_refusal b ∷ length_refusal b.sizes ram_length boot_length ∷ [])

unfoldable pub own_refusal : Board → ℕ → Step → ℕ
own_refusal b boot_length s = first_refusal (kind_refusal s ∷ state_refusal b boot_length s ∷ [])

unfoldable pub step_refusal : Board → List ℕ → List ℕ → Step → ℕ
step_refusal b ram boot s = first_refusal (lent_refusal b (length ram) (length boot) ∷ own_refusal b (length boot) s ∷ [])

-- ---- outcomes: the byte (0 where there is none), and whether the access is forwarded

abbrev pub silent : Outcome
silent = record { byte = 0; forwarded = false }

abbrev pub giving : ℕ → Outcome
giving byte = record { byte = byte; forwarded = false }

abbrev pub forwarding : Bool → Outcome
forwarding forwarded = record { byte = 0; forwarded = forwarded }

-- "In boot mode a fetch takes the stream's next byte"
unfoldable pub fetched_byte : Board → List ℕ → List ℕ → ℕ → ℕ
fetched_byte b ram boot address = cond (eqb b.boot.mode 1) (get_or boot b.boot.at 0) (get_or ram (read_index b.sizes b.paging address) 0)

unfoldable pub port_in_outcome : Board → ℕ → Outcome
port_in_outcome b port = cond (eqb port 0xF4 || eqb port 0xF8) (giving (status_byte b)) (forwarding (forwarded_in port))

unfoldable pub step_outcome : Board → List ℕ → List ℕ → Step → Outcome
step_outcome b ram boot s =
    on_fetch s (λ address. giving (fetched_byte b ram boot address))
    (on_read s (λ address. giving (get_or ram (read_index b.sizes b.paging address) 0))
    (on_in s (port_in_outcome b) (on_out s (λ port value. forwarding (forwarded_out port)) silent)))

-- ---- answers

-- what the firmware is told: a byte, the lines, whether the access is forwarded, and the refusal number or 0
pub record Reply : Type 0 where
  pub byte : ℕ
  pub int : Bool
  pub nmi : Bool
  pub forwarded : Bool
  pub refusal : ℕ

pub record Answer : Type 0 where
  pub board : Board
  pub reply : Reply

-- "INT stands while the counter is not 0, or the external line is on, or the disc line is on with route INT."
unfoldable pub int_line : Board → Bool
int_line b = not (eqb b.clock.counter 0) || (eqb b.external 1 || (eqb b.disc.line 1 && eqb b.disc.route 2))

-- "If a step ends with route NMI and the disc line on, its answer shows NMI and the route becomes none."
unfoldable pub nmi_line : Board → Bool
nmi_line b = eqb b.disc.route 1 && eqb b.disc.line 1

unfoldable pub nmi_shown : Board → Board
nmi_shown b =
    with_disc b
    (record {
      route = cond (nmi_line b) 0 b.disc.route;
      line = b.disc.line;
      terminal_count = b.disc.terminal_count;
      motor = b.disc.motor;
    })

unfoldable pub accepted_answer : Board → Outcome → Answer
accepted_answer b outcome = record {
  board = nmi_shown b;
  reply = record { byte = outcome.byte; int = int_line b; nmi = nmi_line b; forwarded = outcome.forwarded; refusal = 0 };
}

-- "Each returns byte 0, .. not passed on, .. and the record given"; "Lines after a refusal are those of the record; all off for 1"
unfoldable pub refused_answer : Board → ℕ → Answer
refused_answer b number = record {
  board = b;
  reply = record { byte = 0; int = not (eqb number 1) && int_line b; nmi = not (eqb number 1) && nmi_line b; forwarded = false; refusal = number };
}

-- what a step answers, and the RAM that it leaves
unfoldable pub step_answer : Board → List ℕ → List ℕ → Step → Answer
step_answer b ram boot s =
    cond (eqb (step_refusal b ram boot s) 0) (accepted_answer (board_after b ram s) (step_outcome b ram boot s))
    (refused_answer b (step_refusal b ram boot s))

unfoldable pub step_ram : Board → List ℕ → List ℕ → Step → List ℕ
step_ram b ram boot s = cond (eqb (step_refusal b ram boot s) 0) (ram_after b.sizes b.paging ram s) ram

-- ---- the same as the code has it, where a refusal stands in place of an outcome

abbrev pub told_reply : Reply → declared_reply.Reply
told_reply r = record { outcome = answered r.refusal (record { byte = r.byte; forwarded = r.forwarded }); int = r.int; nmi = r.nmi }

abbrev pub told : Answer → declared_answer.Answer
told a = record { board = a.board; reply = told_reply a.reply }

-- accepted with an outcome, or refused by a number: the record stays
abbrev pub accepts : Board → Outcome → Effect
accepts b outcome = record { board = b; outcome = Ok outcome }

abbrev pub refuses : Board → ℕ → Effect
refuses b number = record { board = b; outcome = Err (named number) }

-- what a kind does once record and buffers are found good, before the lines are looked at; refused, it leaves the record
unfoldable pub step_effect : Board → List ℕ → List ℕ → Step → Effect
step_effect b ram boot s = record {
  board = cond (eqb (own_refusal b (length boot) s) 0) (board_after b ram s) b;
  outcome = answered (own_refusal b (length boot) s) (step_outcome b ram boot s);
}

unfoldable pub effect_ram : Board → List ℕ → List ℕ → Step → List ℕ
effect_ram b ram boot s = cond (eqb (own_refusal b (length boot) s) 0) (ram_after b.sizes b.paging ram s) ram

-- the lines of the record, shown for a refusal too: a good one's NMI is off (`step_own`)
unfoldable pub answer_of : Effect → declared_answer.Answer
answer_of e = record { board = nmi_shown e.board; reply = record { outcome = e.outcome; int = int_line e.board; nmi = nmi_line e.board } }
