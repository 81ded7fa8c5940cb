-- Frames by their index, and as a list.
-- Assumes nothing.
use Prim.Native.Nat.{ℕ, zero, suc, ◌<◌}
use native.Mathlib.Omega.{arith}
use mathlib.Core.Path.{◌≡◌, refl, ◌∙◌}
use mathlib.Core.Bool.{Bool, true, false, not, ◌&&◌}
use mathlib.Core.List.{List, [], ◌∷◌, ◌++◌}
use borrow.Author.Tests.{ltb-true, ltb-false}
use lib.Dec.{eqb, ltb}
use lib.ListN.{length, get_or, length-append, get_or-append}
use lib.Seq.{get_or_at, ext_get_or}
use Rattle.facts.proofs.Tests.{below_agree}
use Rattle.byte_rows.proofs.Rows.{rows_same}
use Rattle.archive.specs.Format.{Frame, no_frame, frame_in, listing, entry_row, picture_row, written}
use Rattle.archive.specs.Sound.{has_pair, is_new, fresh}

pub listing_length : (f : ℕ → Frame) (n : ℕ) → length (listing f n) ≡ n
unfolding listing
listing_length f zero = refl
listing_length f (suc n) = rw (length-append, listing_length f n) (omega arith)

pub listing_at : (f : ℕ → Frame) (n k : ℕ) → k < n → frame_in (listing f n) k ≡ f k
unfolding listing frame_in
listing_at f zero k l = absurd (omega arith)
listing_at f (suc n) k l = go (ltb k n) refl (λ m. listing_at f n k m)
  where
    go : (b : Bool) → ltb k n ≡ b → (k < n → get_or (listing f n) k no_frame ≡ f k) → get_or (listing f n ++ (f n ∷ [])) k no_frame ≡ f k
    go true e t =
        let m : k < length (listing f n) = rw listing_length (ltb-true k n e) in
        get_or-append (listing f n) (f n ∷ []) no_frame k m ∙ t (ltb-true k n e)
    go false e t =
        let z : k ≡ n = omega (arith, ltb-false k n e) in
        rw z (get_or_at (listing f n) (f n) [] no_frame n (listing_length f n))

pub listing_back : (fs : List Frame) → listing (frame_in fs) (length fs) ≡ fs
unfolding frame_in
listing_back fs =
    ext_get_or no_frame (listing (frame_in fs) (length fs)) fs (listing_length (frame_in fs) (length fs))
    (λ k l. listing_at (frame_in fs) (length fs) k (rw listing_length at l))

pub listing_same : (f g : ℕ → Frame) (n : ℕ) → ((k : ℕ) → k < n → f k ≡ g k) → listing f n ≡ listing g n
unfolding listing
listing_same f g zero h = refl
listing_same f g (suc n) h = rw (listing_same f g n (λ k l. h k (omega arith)), h n (omega arith))

pub new_same : (f g : ℕ → Frame) (n : ℕ) → ((k : ℕ) → k < n → f k ≡ g k) → (bench number : ℕ) → is_new f bench number n ≡ is_new g bench number n
unfolding is_new has_pair
new_same f g n same bench number =
    below_agree (λ (j : ℕ). not (eqb (f j).bench bench && eqb (f j).number number)) (λ (j : ℕ). not (eqb (g j).bench bench && eqb (g j).number number)) n
    (λ j l. rw (same j l))

-- frames that agree below n make the same archive, and have the same pairs
module _ (f g : ℕ → Frame) (n : ℕ) (same : (k : ℕ) → k < n → f k ≡ g k) where
  pub archive_same : written f n ≡ written g n
  unfolding written entry_row picture_row
  archive_same = rw (rows_same (entry_row f n) (entry_row g n) n (λ k l. rw (same k l)), rows_same (picture_row f) (picture_row g) n (λ k l. rw (same k l)))

  pub fresh_same : (k : ℕ) → k < n → fresh f k ≡ fresh g k
  unfolding fresh
  fresh_same k l = rw (same k l) (new_same f g k (λ j m. same j (omega arith)) (g k).bench (g k).number)
