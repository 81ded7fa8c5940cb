-- Laws of a write to a port: the maps, and the ports that change nothing.
-- Assumes nothing.
use Prim.Native.Nat.{ℕ, ◌-◌, ◌≤◌, ◌<◌}
use native.Mathlib.Omega.{arith}
use mathlib.Core.Path.{◌≡◌, ap}
use mathlib.Core.Bool.{Bool, false, ◌&&◌}
use borrow.Author.Tests.{le-leb, lt-leb, ne_eqb}
use lib.Dec.{leb}
use lib.ListN.{set}
use Rattle.board.specs.declared.record.Board.{Board}
use Rattle.board.specs.Registers.{paging_out, video_out, written}

-- a map register
pub written_map : (b : Board) (p v : ℕ) → 0xF0 ≤ p → p ≤ 0xF3
    → record {
      sizes = b.sizes;
      rate = b.rate;
      paging = record { maps = set b.paging.maps (p - 0xF0) v; lock = b.paging.lock };
      video = b.video;
      clock = b.clock;
      boot = b.boot;
      disc = b.disc;
      external = b.external;
      driven = b.driven;
      bleeper = b.bleeper;
      dirty = b.dirty;
    } ≡ written b p v
unfolding written paging_out video_out
written_map b p v lo hi =
    rw (
      le-leb 0xF0 p lo,
      le-leb p 0xF3 hi,
      ne_eqb p 0xF4 (λ (z : p ≡ 0xF4). omega arith),
      ne_eqb p 0xF5 (λ (z : p ≡ 0xF5). omega arith),
      ne_eqb p 0xF6 (λ (z : p ≡ 0xF6). omega arith),
      ne_eqb p 0xF7 (λ (z : p ≡ 0xF7). omega arith),
      ne_eqb p 0xF8 (λ (z : p ≡ 0xF8). omega arith),
    )

-- no register and no command
pub written_other : (b : Board) (p v : ℕ) → (leb 0xF0 p && leb p 0xF3) ≡ false → (p ≡ 0xF4 → ⊥) → (p ≡ 0xF5 → ⊥) → (p ≡ 0xF6 → ⊥) → (p ≡ 0xF7 → ⊥) → (p ≡ 0xF8 → ⊥)
    → b ≡ written b p v
unfolding written paging_out video_out
written_other b p v m f4 f5 f6 f7 f8 = rw (m, ne_eqb p 0xF4 f4, ne_eqb p 0xF5 f5, ne_eqb p 0xF6 f6, ne_eqb p 0xF7 f7, ne_eqb p 0xF8 f8)

-- below the registers, and above the commands
pub written_below : (b : Board) (p v : ℕ) → p < 0xF0 → b ≡ written b p v
written_below b p v h =
    written_other b p v (ap (λ (t : Bool). t && leb p 0xF3) (lt-leb 0xF0 p h)) (λ (z : p ≡ 0xF4). omega arith) (λ (z : p ≡ 0xF5). omega arith)
    (λ (z : p ≡ 0xF6). omega arith)
    (λ (z : p ≡ 0xF7). omega arith)
    (λ (z : p ≡ 0xF8). omega arith)

maps_above : (p : ℕ) → 0xF3 < p → (leb 0xF0 p && leb p 0xF3) ≡ false
maps_above p h = rw (le-leb 0xF0 p (omega arith), lt-leb p 0xF3 h)

pub written_above : (b : Board) (p v : ℕ) → 0xF3 < p → (p ≡ 0xF4 → ⊥) → (p ≡ 0xF5 → ⊥) → (p ≡ 0xF6 → ⊥) → (p ≡ 0xF7 → ⊥) → (p ≡ 0xF8 → ⊥) → b ≡ written b p v
written_above b p v h = written_other b p v (maps_above p h)

pub written_past : (b : Board) (p v : ℕ) → 0xF8 < p → b ≡ written b p v
written_past b p v h =
    written_above b p v (omega arith) (λ (z : p ≡ 0xF4). omega arith) (λ (z : p ≡ 0xF5). omega arith) (λ (z : p ≡ 0xF6). omega arith)
    (λ (z : p ≡ 0xF7). omega arith)
    (λ (z : p ≡ 0xF8). omega arith)
