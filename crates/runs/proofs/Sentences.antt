-- Sentences of document 01 that no one definition says, but several together.
-- Assumes nothing.
use Prim.Native.Nat.{ℕ}
use native.Mathlib.Omega.{arith}
use mathlib.Core.Path.{◌≡◌, refl, sym, ◌∙◌}
use mathlib.Core.Bool.{Bool, true, false, true≢false}
use mathlib.Core.List.{List}
use borrow.Author.Tests.{eqb-true}
use lib.Dec.{eqb}
use Rattle.board.specs.declared.record.Board.{Board}
use Rattle.board.specs.Record.{good, record_refusal}
use Rattle.board.specs.Registers.{written}
use Rattle.step_rules.specs.declared.Step.TheVariants.{PortIn, PortOut}
use Rattle.step_rules.specs.Ports.{forwarded_in, forwarded_out}
use Rattle.step_rules.specs.After.{parts_after}
use Rattle.step_rules.proofs.Ports.{board_port, in_forwarded, written_forwarded}
use Rattle.picture.specs.Pictures.{picture_refusal, draw_picture, refresh_picture}

-- "Floating changes no pixel": of a good record, draw looks at sizes, rate and F5 to F7 alone
pub drawn_from : (b c : Board) (ram picture : List ℕ) → good b ≡ good c → b.sizes ≡ c.sizes → b.rate ≡ c.rate → b.video ≡ c.video
    → draw_picture b ram picture ≡ draw_picture c ram picture
unfolding draw_picture picture_refusal record_refusal
drawn_from b c ram picture g s r v = rw (g, s, r, v)

-- and refresh at its dirty lines too
pub refreshed_from : (b c : Board) (ram picture : List ℕ) → good b ≡ good c → b.sizes ≡ c.sizes → b.video ≡ c.video → b.dirty ≡ c.dirty
    → refresh_picture b ram picture ≡ refresh_picture c ram picture
unfolding refresh_picture picture_refusal record_refusal
refreshed_from b c ram picture g s v d = rw (g, s, v, d)

-- "Passed on (accepted, nothing changed, marked for the host)": a port in that is forwarded, and one out
pub forwarded_in_keeps : (b : Board) (port : ℕ) → forwarded_in port ≡ true → parts_after b (PortIn port) ≡ b
forwarded_in_keeps b port e = go (eqb port 0xF4) refl
  where
    not_f4 : port ≡ 0xF4 → ⊥
    not_f4 z = true≢false (sym e ∙ in_forwarded port (λ (y : port ≡ 0x00). omega arith) ∙ board_port port (omega arith) (omega arith))

    go : (t : Bool) → eqb port 0xF4 ≡ t → parts_after b (PortIn port) ≡ b
    go true f = absurd (not_f4 (eqb-true port 0xF4 f))
    go false f = rw f

pub forwarded_out_keeps : (b : Board) (port value : ℕ) → forwarded_out port ≡ true → parts_after b (PortOut port value) ≡ b
unfolding written
forwarded_out_keeps b port value e = sym (written_forwarded b port value e)
