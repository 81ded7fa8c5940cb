-- Laws of the ports: which are forwarded, and which are of this board.
-- Assumes nothing.
use Prim.Native.Nat.{ℕ, ◌≤◌, ◌<◌}
use native.Mathlib.Omega.{arith}
use mathlib.Core.Path.{◌≡◌, refl, sym, ◌∙◌}
use mathlib.Core.Bool.{Bool, true, false, ◌&&◌, ◌||◌, true≢false}
use borrow.Author.Tests.{le-leb, lt-leb, eq-eqb, ne_eqb, eqb-true, eqb-false, leb-true, leb-false}
use lib.Dec.{eqb, leb}
use Rattle.board.specs.declared.record.Board.{Board}
use Rattle.board.specs.Registers.{written}
use Rattle.board.proofs.Registers.{written_below, written_past}
use Rattle.step_rules.specs.Ports.{forwarded_in, forwarded_out, decoded_in, decoded_out}

-- no port from F0h to FBh is forwarded
pub board_port : (p : ℕ) → 0xF0 ≤ p → p ≤ 0xFB → forwarded_out p ≡ false
unfolding forwarded_out
board_port p lo hi =
    rw (
      ne_eqb p 0x01 (λ (z : p ≡ 0x01). omega arith),
      le-leb 0x80 p (omega arith),
      lt-leb p 0xEF (omega arith),
      ne_eqb p 0xFC (λ (z : p ≡ 0xFC). omega arith),
      ne_eqb p 0xFD (λ (z : p ≡ 0xFD). omega arith),
    )

pub register_decoded : (p : ℕ) → 0xF0 ≤ p → p ≤ 0xF8 → decoded_out p ≡ true
unfolding decoded_out
register_decoded p lo hi = rw (board_port p lo (omega arith), le-leb 0xF0 p lo, le-leb p 0xF8 hi)

pub idle_decoded : (p : ℕ) → 0xFA ≤ p → p ≤ 0xFB → decoded_out p ≡ true
unfolding decoded_out
idle_decoded p lo hi = rw (board_port p (omega arith) hi, le-leb 0xF0 p (omega arith), lt-leb p 0xF8 (omega arith)) (go (eqb p 0xFA) refl)
  where
    go : (t : Bool) → eqb p 0xFA ≡ t → (t || eqb p 0xFB) ≡ true
    go true e = refl
    go false e = let ne : p ≡ 0xFA → ⊥ = eqb-false p 0xFA e in eq-eqb p 0xFB (omega arith)

pub forwarded_decoded : (p : ℕ) → forwarded_out p ≡ true → decoded_out p ≡ true
unfolding decoded_out
forwarded_decoded p e = rw e

-- any other port out is not decoded
pub out_refused : (p : ℕ) → forwarded_out p ≡ false → (leb 0xF0 p && leb p 0xF8) ≡ false → (leb 0xFA p && leb p 0xFB) ≡ false → decoded_out p ≡ false
unfolding decoded_out
out_refused p e f g = rw (e, f) (go (eqb p 0xFA) refl (eqb p 0xFB) refl)
  where
    inside : 0xFA ≤ p → p ≤ 0xFB → ⊥
    inside lo hi = true≢false (rw (le-leb 0xFA p lo, le-leb p 0xFB hi) at g)

    go : (t : Bool) → eqb p 0xFA ≡ t → (u : Bool) → eqb p 0xFB ≡ u → (t || u) ≡ false
    go true e u f = let z = eqb-true p 0xFA e in absurd (inside (omega arith) (omega arith))
    go false e true f = let z = eqb-true p 0xFB f in absurd (inside (omega arith) (omega arith))
    go false e false f = refl

-- ports in: 00h, those that are forwarded out too, F4h and F8h
pub in_other : (p : ℕ) → (p ≡ 0x00 → ⊥) → (p ≡ 0xF4 → ⊥) → (p ≡ 0xF8 → ⊥) → decoded_in p ≡ forwarded_out p
unfolding decoded_in forwarded_in
in_other p a b c = rw (ne_eqb p 0x00 a, ne_eqb p 0xF4 b, ne_eqb p 0xF8 c) (go (forwarded_out p))
  where
    go : (t : Bool) → (t || false) ≡ t
    go true = refl
    go false = refl

pub in_forwarded : (p : ℕ) → (p ≡ 0x00 → ⊥) → forwarded_in p ≡ forwarded_out p
unfolding forwarded_in
in_forwarded p a = rw (ne_eqb p 0x00 a)

-- a forwarded port changes nothing
pub written_forwarded : (b : Board) (p v : ℕ) → forwarded_out p ≡ true → b ≡ written b p v
written_forwarded b p v e = go (leb 0xF0 p) refl (leb p 0xFB) refl
  where
    go : (t : Bool) → leb 0xF0 p ≡ t → (u : Bool) → leb p 0xFB ≡ u → b ≡ written b p v
    go false f u g = written_below b p v (leb-false 0xF0 p f)
    go true f true g = absurd (true≢false (sym e ∙ board_port p (leb-true 0xF0 p f) (leb-true p 0xFB g)))
    go true f false g = let l = leb-false p 0xFB g in written_past b p v (omega arith)

-- the ports out that are forwarded, and the others
pub forwarded_expansion : (p : ℕ) → 0x80 ≤ p → p ≤ 0xEF → forwarded_out p ≡ true
unfolding forwarded_out
forwarded_expansion p lo hi = rw (ne_eqb p 0x01 (λ (z : p ≡ 0x01). omega arith), le-leb 0x80 p lo, le-leb p 0xEF hi)

pub forwarded_printer : (p : ℕ) → 0xFC ≤ p → p ≤ 0xFD → forwarded_out p ≡ true
unfolding forwarded_out
forwarded_printer p lo hi =
    rw (ne_eqb p 0x01 (λ (z : p ≡ 0x01). omega arith), le-leb 0x80 p (omega arith), lt-leb p 0xEF (omega arith)) (go (eqb p 0xFC) refl)
  where
    go : (t : Bool) → eqb p 0xFC ≡ t → (t || eqb p 0xFD) ≡ true
    go true e = refl
    go false e = let ne : p ≡ 0xFC → ⊥ = eqb-false p 0xFC e in eq-eqb p 0xFD (omega arith)

pub forwarded_low : (p : ℕ) → p < 0x80 → (p ≡ 0x01 → ⊥) → forwarded_out p ≡ false
unfolding forwarded_out
forwarded_low p hi ne =
    rw (ne_eqb p 0x01 ne, lt-leb 0x80 p hi, ne_eqb p 0xFC (λ (z : p ≡ 0xFC). omega arith), ne_eqb p 0xFD (λ (z : p ≡ 0xFD). omega arith))

pub forwarded_top : (p : ℕ) → 0xFD < p → forwarded_out p ≡ false
unfolding forwarded_out
forwarded_top p lo =
    rw (
      ne_eqb p 0x01 (λ (z : p ≡ 0x01). omega arith),
      le-leb 0x80 p (omega arith),
      lt-leb p 0xEF (omega arith),
      ne_eqb p 0xFC (λ (z : p ≡ 0xFC). omega arith),
      ne_eqb p 0xFD (λ (z : p ≡ 0xFD). omega arith),
    )

-- the ports that are not decoded, by where they lie
pub refused_below : (p : ℕ) → forwarded_out p ≡ false → p < 0xF0 → decoded_out p ≡ false
refused_below p e h = out_refused p e (rw (lt-leb 0xF0 p h)) (rw (lt-leb 0xFA p (omega arith)))

pub refused_between : (p : ℕ) → forwarded_out p ≡ false → 0xF8 < p → p < 0xFA → decoded_out p ≡ false
refused_between p e l h = out_refused p e (rw (le-leb 0xF0 p (omega arith), lt-leb p 0xF8 l)) (rw (lt-leb 0xFA p h))

pub refused_above : (p : ℕ) → forwarded_out p ≡ false → 0xFB < p → decoded_out p ≡ false
refused_above p e l = out_refused p e (rw (le-leb 0xF0 p (omega arith), lt-leb p 0xF8 (omega arith))) (rw (le-leb 0xFA p (omega arith), lt-leb p 0xFB l))
