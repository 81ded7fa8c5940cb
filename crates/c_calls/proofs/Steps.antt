-- What the answer of a step tells of the reply that it is packed in.
-- Assumes nothing.
use Prim.Native.Nat.{ℕ, ◌+◌, ◌*◌}
use native.Mathlib.Omega.{arith}
use mathlib.Core.Path.{◌≡◌, sym, ◌∙◌, ap}
use mathlib.Core.List.{List}
use mir.Val.{bool_byte}
use Rattle.std.specs.Prelude.{Option, Ok, Err}
use Rattle.refusal.specs.declared.Refusal.{Refusal}
use Rattle.refusal.specs.Numbers.{number}
use Rattle.board.specs.declared.record.Board.{Board}
use Rattle.step_rules.specs.declared.Answer as declared_answer
use Rattle.step_rules.specs.declared.Reply as declared_reply
use Rattle.step_rules.specs.declared.Outcome.{Outcome}
use Rattle.step_rules.specs.declared.Step.{Step}
use Rattle.step_rules.specs.Answers.{told, told_reply}
use Rattle.step_rules.specs.Decoding.{numbers_answer}
use Rattle.step_rules.proofs.Told.{told_ok, numbers_err}
use Rattle.c_numbers.specs.Packing.{reply}
use Rattle.c_calls.specs.Calls.{step_reply}

module _ (b : Board) (ram boot : List ℕ) (d : Option Step) (a : declared_answer.Answer) (c : a ≡ told (numbers_answer b ram boot d)) where
  same : a.reply ≡ told_reply (numbers_answer b ram boot d).reply
  same = ap (λ (x : declared_answer.Answer). x.reply) c

  int : bool_byte a.reply.int ≡ bool_byte (numbers_answer b ram boot d).reply.int
  int = ap (λ (x : declared_reply.Reply). bool_byte x.int) same

  nmi : bool_byte a.reply.nmi ≡ bool_byte (numbers_answer b ram boot d).reply.nmi
  nmi = ap (λ (x : declared_reply.Reply). bool_byte x.nmi) same

  pub step_board : a.board ≡ (numbers_answer b ram boot d).board
  step_board = ap (λ (x : declared_answer.Answer). x.board) c

  pub step_ok : (o : Outcome) → a.reply.outcome ≡ Ok o
      → reply o.byte (1 * bool_byte a.reply.int + 2 * bool_byte a.reply.nmi + 4 * bool_byte o.forwarded) 0 0 ≡ step_reply (numbers_answer b ram boot d).reply
  unfolding step_reply
  step_ok o e =
      let r = (numbers_answer b ram boot d).reply in
      let t = told_ok r o (sym (ap (λ (x : declared_reply.Reply). x.outcome) same) ∙ e) in
      let w = ap bool_byte t.1.1 in
      let s : 1 * bool_byte a.reply.int + 2 * bool_byte a.reply.nmi + 4 * bool_byte o.forwarded ≡ bool_byte r.int + (2 * bool_byte r.nmi + 4 * bool_byte r.forwarded) = omega (arith, int, nmi) in
      rw (s, t.0, t.1.0)

  pub step_err : (q : Refusal) → a.reply.outcome ≡ Err q
      → reply 0 (1 * bool_byte a.reply.int + 2 * bool_byte a.reply.nmi) (number q) 0 ≡ step_reply (numbers_answer b ram boot d).reply
  unfolding step_reply
  step_err q e =
      let r = (numbers_answer b ram boot d).reply in
      let t = numbers_err b ram boot d q (sym (ap (λ (x : declared_reply.Reply). x.outcome) same) ∙ e) in
      let w : bool_byte r.forwarded ≡ 0 = ap bool_byte t.1.1 in
      let s : 1 * bool_byte a.reply.int + 2 * bool_byte a.reply.nmi ≡ bool_byte r.int + (2 * bool_byte r.nmi + 4 * bool_byte r.forwarded) = omega (arith, int, nmi) in
      rw (s, t.0, t.1.0)
