-- Laws of the indexes of a line's 90 pixel bytes: where they lie, and a test for them with no search.
-- Assumes nothing.
use Prim.Native.Nat.{ℕ, ◌+◌, ◌-◌, ◌*◌, ◌/◌, ◌%◌, ◌≤◌, ◌<◌}
use mathlib.Core.Path.{◌≡◌, refl}
use mathlib.Core.Bool.{Bool, true, false, ◌&&◌}
use native.Mathlib.Omega.{arith}
use borrow.Author.Tests.{ltb-true, ltb-false, eq-eqb, ne_eqb, eqb-true, eqb-false}
use lib.Dec.{eqb, ltb}
use Rattle.facts.proofs.Tests.{any_none, any_some}
use Rattle.paging.specs.Memory.{index_of}
use Rattle.scanline.specs.Pointers.{pointer_of}
use Rattle.scanline.specs.Drawing.{pixel_index, pixel_touched}
use Rattle.scanline.specs.declared.Pointer.{Pointer}

-- a pixel byte lies in standard RAM, whatever the pointer
pub pixel_index_lt : (p : Pointer) (i : ℕ) → pixel_index p i < 131072
unfolding pixel_index
pixel_index_lt p i = omega arith

-- a line that leaves its block runs on from the start of the next one, and from block 7 into block 0
module _ (block start i : ℕ) (far : 16384 ≤ start + 8 * i) (near : start + 8 * i < 32768) where
  pub into_next_block : block < 7 → pixel_index (record { block = block; start = start }) i ≡ index_of (block + 1) (start + 8 * i - 16384)
  unfolding pixel_index
  into_next_block h = omega arith

  pub into_block_0 : block ≡ 7 → pixel_index (record { block = block; start = start }) i ≡ index_of 0 (start + 8 * i - 16384)
  unfolding pixel_index
  into_block_0 h = omega arith

-- the indexes of the pixel bytes are the only ones touched
touched_none : (w at : ℕ) → ((i : ℕ) → i < 90 → at ≡ pixel_index (pointer_of w) i → ⊥) → pixel_touched w at ≡ false
unfolding pixel_touched
touched_none w at h =
    any_none (λ (i : ℕ). eqb at (pixel_index (pointer_of w) i)) 0 90
    (λ i lo hi. ne_eqb at (pixel_index (pointer_of w) i) (h i (omega arith)))

touched_some : (w at i : ℕ) → i < 90 → at ≡ pixel_index (pointer_of w) i → pixel_touched w at ≡ true
unfolding pixel_touched
touched_some w at i l e =
    any_some (λ (i : ℕ). eqb at (pixel_index (pointer_of w) i)) 0 90 i (omega arith) (omega arith) (eq-eqb at (pixel_index (pointer_of w) i) e)

-- none lies past standard RAM
pub pixels_below : (w at : ℕ) → 131072 ≤ at → pixel_touched w at ≡ false
pixels_below w at p =
    touched_none w at (λ (i : ℕ) (l : i < 90) (z : at ≡ pixel_index (pointer_of w) i). omega (arith, pixel_index_lt (pointer_of w) i))

-- a line starts at two eights for each eight of its word, in whatever block
start_index : (w : ℕ) → w / 8192 * 16384 + (16 * (w % 8192 / 8) + w % 8192 % 8) ≡ 16 * (w / 8) + w % 8
start_index w = omega arith

pixel_word : (w i : ℕ) → pixel_index (pointer_of w) i ≡ (16 * (w / 8) + w % 8 + 8 * i) % 131072
unfolding pixel_index pointer_of
pixel_word w i = rw (start_index w)

-- the way from a line's start to an index, in eights, round the circle of standard RAM
abbrev way : ℕ → ℕ → ℕ
way w at = (at / 8 + 16384 - 2 * (w / 8)) % 16384

-- a pixel byte lies at the start's place in eight, and its number is the way to it: q eights and r are the word's
way_there : (q r i at : ℕ) → q < 8192 → r < 8 → i < 90 → at ≡ (16 * q + r + 8 * i) % 131072 → (r ≡ at % 8) × ((at / 8 + 16384 - 2 * q) % 16384 ≡ i)
way_there q r i at a b l e = (omega arith, omega arith)

way_back : (q r at : ℕ) → q < 8192 → r < 8 → at < 131072 → r ≡ at % 8 → at ≡ (16 * q + r + 8 * ((at / 8 + 16384 - 2 * q) % 16384)) % 131072
way_back q r at a b l e = omega arith

module _ (w at : ℕ) (h : w < 65536) where
  pixel_way : (i : ℕ) → i < 90 → at ≡ pixel_index (pointer_of w) i → (w % 8 ≡ at % 8) × (way w at ≡ i)
  pixel_way i l e = way_there (w / 8) (w % 8) i at (omega arith) (omega arith) l (rw pixel_word at e)

  way_pixel : at < 131072 → w % 8 ≡ at % 8 → at ≡ pixel_index (pointer_of w) (way w at)
  way_pixel l e = rw pixel_word (way_back (w / 8) (w % 8) at (omega arith) (omega arith) l e)

-- an index is a pixel byte's if it lies at the same place in eight and the way to it is below 90: no block is compared
pub word_touched : (w at : ℕ) → w < 65536 → at < 131072
    → pixel_touched w at ≡ (eqb (w % 8) (at % 8) && ltb ((at / 8 + 16384 - 2 * (w / 8)) % 16384) 90)
word_touched w at h l = go (eqb (w % 8) (at % 8)) refl (ltb (way w at) 90) refl
  where
    go : (t : Bool) → eqb (w % 8) (at % 8) ≡ t → (u : Bool) → ltb (way w at) 90 ≡ u → pixel_touched w at ≡ (t && u)
    go false e u f = touched_none w at (λ (i : ℕ) (b : i < 90) (z : at ≡ pixel_index (pointer_of w) i). eqb-false (w % 8) (at % 8) e (pixel_way w at h i b z).0)
    go true e true f = touched_some w at (way w at) (ltb-true (way w at) 90 f) (way_pixel w at h l (eqb-true (w % 8) (at % 8) e))
    go true e false f =
        let far : 90 ≤ way w at = ltb-false (way w at) 90 f in
        touched_none w at (λ (i : ℕ) (b : i < 90) (z : at ≡ pixel_index (pointer_of w) i). omega (arith, (pixel_way w at h i b z).1))
