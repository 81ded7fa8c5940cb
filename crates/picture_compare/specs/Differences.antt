-- The first place where two pictures differ. Document 01, "Scan lines".
-- A picture is 256 lines of 90 bytes, 23,040 bytes, leftmost pixel in the top bit.
use Rattle.std.specs.Prelude.{ℕ, zero, suc, ◌+◌, ◌<◌, ◌/◌, ◌%◌, ◌≡◌, Bool, cond, not, ◌&&◌, List, Option, None, Some, eqb, length, get_or}
use Rattle.panel.specs.Widen.{pixel_in}
use Rattle.scanline.specs.Drawing.{picture_fits}
use Rattle.picture_compare.specs.declared.Position.{Position}

-- the first of n pixels from `from` on, in reading order, that a test holds of: its line and its pixel, 0 to 719
unfoldable pub first_pixel : (ℕ → Bool) → ℕ → ℕ → Option Position
first_pixel p from zero = None
first_pixel p from (suc n) = cond (p from) (Some (record { line = from / 720; pixel = from % 720 })) (first_pixel p (suc from) n)

-- "the first place where two pictures differ (line, then pixel 0 to 719, in reading order, or none)"
unfoldable pub first_difference : List ℕ → List ℕ → Option Position
first_difference a b = first_pixel (λ (j : ℕ). not (eqb (pixel_in a j) (pixel_in b j))) 0 184320

-- what the call tells: a place or none, and a refusal number
pub record Difference : Type 0 where
  pub position : Option Position
  pub refusal : ℕ

-- 2 for a picture of a wrong length
unfoldable pub difference_answer : List ℕ → List ℕ → Difference
difference_answer a b =
    cond (picture_fits (length a) && picture_fits (length b)) (record { position = first_difference a b; refusal = 0 })
    (record { position = None; refusal = 2 })

-- n bytes from `first` on are the same in two lists
abbrev pub AlikeFrom : List ℕ → List ℕ → ℕ → ℕ → Type 0
AlikeFrom a b first n = (m : ℕ) → m < n → get_or a (first + m) 0 ≡ get_or b (first + m) 0
