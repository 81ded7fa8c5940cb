-- Laws of rows, zeros, and lists put down.
-- Assumes nothing.
use Prim.Native.Nat.{ℕ, zero, suc, ◌+◌, ◌-◌, ◌*◌, ◌≤◌, ◌<◌}
use native.Mathlib.Nat.{mul-suc, mul-zero, zero-add, add_assoc}
use native.Mathlib.Numerals.{add-one}
use native.Mathlib.Omega.{arith}
use mathlib.Core.Path.{◌≡◌, refl, sym, ap, ◌∙◌}
use mathlib.Core.Bool.{Bool, true, false}
use mathlib.Core.List.{List, [], ◌∷◌, ◌++◌, append_assoc}
use borrow.Author.Tests.{ltb-true, ltb-false, le-leb, lt-leb, leb-true, leb-false}
use lib.Dec.{ltb, leb}
use lib.ListN.{length, get_or, set, take, drop, length-append, length-drop}
use lib.Seq.{paste, paste-zero, length-paste, paste-suc, sets-eq, take_at, drop_at, take-add, take-length, take_all, drop-append-add, drop-drop, length-take-le, ext_get_or, get_or-take, get_or-drop}
use Rattle.facts.specs.Lists.{in_room}
use Rattle.facts.proofs.Rooms.{room_step}
use Rattle.byte_rows.specs.Rows.{rows, zeros, put, copied}

-- ---- a list behind another

pub drop_past : (x y : List ℕ) (m i : ℕ) → length x ≡ m → drop (m + i) (x ++ y) ≡ drop i y
drop_past x y m i e = rw (← e) (drop-append-add x y i)

-- what a slice `&b[s..]` holds
pub rest_all : (b : List ℕ) (s : ℕ) → take (length b - s) (drop s b) ≡ drop s b
rest_all b s = take_all (length b - s) (drop s b) (simp length-drop (omega arith))

pub three_parts : (b : List ℕ) (x y z : ℕ) → length b ≡ x + y + z → take x b ++ take y (drop x b) ++ take z (drop (x + y) b) ≡ b
three_parts b x y z e = rw (← take-add x y b, ← take-add (x + y) z b) (take_all (x + y + z) b (omega arith))

-- ---- rows of any width

-- what stands from row k on, whatever follows the rows
pub rows_from : (f : ℕ → List ℕ) (n k : ℕ) (r : List ℕ) → k < n
    → drop (length (rows f k)) (rows f n ++ r) ≡ f k ++ drop (length (rows f k) + length (f k)) (rows f n ++ r)
unfolding rows
rows_from f zero k r l = absurd (omega arith)
rows_from f (suc n) k r l = rw append_assoc (go (ltb k n) refl (λ q. rows_from f n k (f n ++ r) q))
  where
    go : (b : Bool) → ltb k n ≡ b → (k < n → drop (length (rows f k)) (rows f n ++ (f n ++ r)) ≡ f k ++ drop (length (rows f k) + length (f k)) (rows f n ++ (f n ++ r)))
        → drop (length (rows f k)) (rows f n ++ (f n ++ r)) ≡ f k ++ drop (length (rows f k) + length (f k)) (rows f n ++ (f n ++ r))
    go true e t = t (ltb-true k n e)
    go false e t =
        let z : k ≡ n = omega (arith, ltb-false k n e) in
        rw (z, drop-append-add (rows f n) (f n ++ r) (length (f n)), drop_at (rows f n) (f n ++ r) (length (rows f n)) refl, drop_at (f n) r (length (f n)) refl)

-- rows that are the parts of a list from an index on are that part of it
pub rows_cut : (f : ℕ → List ℕ) (b : List ℕ) (s n : ℕ) → ((k : ℕ) → k < n → f k ≡ take (length (f k)) (drop (s + length (rows f k)) b))
    → rows f n ≡ take (length (rows f n)) (drop s b)
unfolding rows
rows_cut f b s zero h = refl
rows_cut f b s (suc n) h =
    let e = rows_cut f b s n (λ k l. h k (omega arith)) in
    rw (length-append, take-add (length (rows f n)) (length (f n)) (drop s b), ← e, drop-drop (length (rows f n)) s b, ← h n (omega arith))

-- ---- rows of one width

module _ (f : ℕ → List ℕ) (w : ℕ) where
  pub rows_length : (n : ℕ) → ((k : ℕ) → k < n → length (f k) ≡ w) → length (rows f n) ≡ w * n
  unfolding rows
  rows_length zero h = sym (mul-zero w)
  rows_length (suc n) h = rw (length-append, rows_length n (λ k l. h k (omega arith)), h n (omega arith), mul-suc)

  -- what stands from row k on, whatever follows the rows
  pub rows_at : (n k : ℕ) (r : List ℕ) → ((j : ℕ) → j < n → length (f j) ≡ w) → k < n
      → drop (w * k) (rows f n ++ r) ≡ f k ++ drop (w * k + w) (rows f n ++ r)
  rows_at n k r h l = rw (rows_length k (λ j m. h j (omega arith)), h k l) at (rows_from f n k r l)

  -- rows that are the parts of a list are that list
  pub rows_take : (b : List ℕ) (s n : ℕ) → ((k : ℕ) → k < n → f k ≡ take w (drop (s + w * k) b)) → rows f n ≡ take (w * n) (drop s b)
  unfolding rows
  rows_take b s zero h = rw mul-zero
  rows_take b s (suc n) h =
      rw (rows_take b s n (λ k l. h k (omega arith)), h n (omega arith), mul-suc, take-add (w * n) w (drop s b), drop-drop (w * n) s b)

pub rows_same : (f g : ℕ → List ℕ) (n : ℕ) → ((k : ℕ) → k < n → f k ≡ g k) → rows f n ≡ rows g n
unfolding rows
rows_same f g zero h = refl
rows_same f g (suc n) h = rw (rows_same f g n (λ k l. h k (omega arith)), h n (omega arith))

-- ---- zeros

pub zeros_length : (n : ℕ) → length (zeros n) ≡ n
unfolding zeros
zeros_length zero = refl
zeros_length (suc n) = ap suc (zeros_length n)

pub zeros_at : (n i : ℕ) → get_or (zeros n) i 0 ≡ 0
unfolding zeros
zeros_at zero i = refl
zeros_at (suc n) zero = refl
zeros_at (suc n) (suc i) = zeros_at n i

pub zeros_make : (xs : List ℕ) (n : ℕ) → length xs ≡ n → ((i : ℕ) → i < n → get_or xs i 0 ≡ 0) → xs ≡ zeros n
zeros_make xs n l h = ext_get_or 0 xs (zeros n) (l ∙ sym (zeros_length n)) (λ i m. h i (omega arith) ∙ sym (zeros_at n i))

-- a part of a list that is zero from its element m on
pub zeros_behind : (b : List ℕ) (p m w : ℕ) → m ≤ w → p + w ≤ length b → ((i : ℕ) → i < w - m → get_or b (p + m + i) 0 ≡ 0)
    → take m (drop p b) ++ zeros (w - m) ≡ take w (drop p b)
zeros_behind b p m w h l z =
    let d : List ℕ = drop p b in
    let e : w ≡ m + (w - m) = omega arith in
    let s : w - m ≤ length (drop m d) = simp (length-drop) (omega arith) in
    let t : take (w - m) (drop m d) ≡ zeros (w - m) =
    zeros_make (take (w - m) (drop m d)) (w - m) (length-take-le (w - m) (drop m d) s)
    (λ i k. rw (get_or-take (w - m) (drop m d) i 0 k, get_or-drop m d i 0, get_or-drop p b (m + i) 0, ← add_assoc p m i) (z i k)) in
    rw (← t, ← take-add m (w - m) d, ← e)

-- ---- lists put down one after the other

pub put_length : (out : List ℕ) (to : ℕ) (x : List ℕ) → to + length x ≤ length out → length (put out to x) ≡ length out
unfolding put
put_length out to x h = simp (length-append, length-drop, length-take-le to out (omega arith)) (omega arith)

pub room_put : (t x out : List ℕ) → put (in_room t out) (length t) x ≡ in_room (t ++ x) out
unfolding put
room_put t x out = room_step t x out

pub put_four : (l : List ℕ) (i a b c d : ℕ) → i + 4 ≤ length l
    → set (set (set (set l i a) (i + 1) b) (i + 2) c) (i + 3) d ≡ put l i (a ∷ b ∷ c ∷ d ∷ [])
unfolding put
put_four l i a b c d h =
    let e : i + 1 ≡ suc i = omega arith in
    let f : i + 2 ≡ suc (suc i) = omega arith in
    let g : i + 3 ≡ suc (suc (suc i)) = omega arith in
    rw (e, f, g) (sets-eq (a ∷ b ∷ c ∷ d ∷ []) l i h)

-- what is put behind a thing just put
pub put_put : (out : List ℕ) (to at : ℕ) (x y : List ℕ) → to ≤ length out → at ≡ to + length x → put (put out to x) at y ≡ put out to (x ++ y)
unfolding put
put_put out to at x y h e =
    let t : length (take to out ++ x) ≡ to + length x = rw (length-append, length-take-le to out h) in
    rw (e, take_at (take to out ++ x) (drop (to + length x) out) (to + length x) t, drop_past (take to out ++ x) (drop (to + length x) out) (to + length x) (length y) t, drop-drop (length y) (to + length x) out, length-append x y, ← append_assoc (take to out) x y, add_assoc)

pub put_start : (out x : List ℕ) → put out 0 x ≡ in_room x out
unfolding put in_room
put_start out x = rw zero-add

-- d with its elements from an index on replaced by the first i of s. It is shut, so that `_` is found where a need names it
unfoldable pub pasted : List ℕ → ℕ → List ℕ → ℕ → List ℕ
pasted d to s i = paste d to s i

-- a loop that stores the elements of s: its start, a turn and its end
pub pasted_start : (d : List ℕ) (to : ℕ) (s : List ℕ) → d ≡ pasted d to s 0
unfolding pasted
pasted_start d to s = paste-zero d to s

module _ (d s : List ℕ) (to i : ℕ) (out : List ℕ) (is : out ≡ pasted d to s i) where
  pub pasted_length : to + length s ≤ length d → i ≤ length s → length out ≡ length d
  unfolding pasted
  pasted_length h l = ap length is ∙ length-paste d to s i (omega arith) l

  pub pasted_turn : (v : ℕ) → v ≡ get_or s i 0 → to + length s ≤ length d → i < length s → set out (to + i) v ≡ pasted d to s (i + 1)
  unfolding pasted
  pasted_turn v e h l = rw (e, is, add-one) (paste-suc d to s i 0 (omega arith) l)

  pub pasted_end : i ≡ length s → out ≡ put d to s
  unfolding pasted put
  pasted_end e = is ∙ rw (e, take-length)

pub room_put_at : (t x out : List ℕ) (at : ℕ) → at ≡ length t → put (in_room t out) at x ≡ in_room (t ++ x) out
room_put_at t x out at e = rw e (room_put t x out)

-- whether n fit from an index on, with no sum to make
pub fits_not : (to n size : ℕ) → size < n → false ≡ leb (to + n) size
fits_not to n size h = sym (lt-leb (to + n) size (omega arith))

pub fits_test : (to n size : ℕ) → n ≤ size → leb to (size - n) ≡ leb (to + n) size
fits_test to n size h = go (leb (to + n) size) refl
  where
    go : (b : Bool) → leb (to + n) size ≡ b → leb to (size - n) ≡ b
    go true e = le-leb to (size - n) (omega (arith, leb-true (to + n) size e))
    go false e = lt-leb to (size - n) (omega (arith, leb-false (to + n) size e))

-- what fits is put there
pub copied_fits : (out : List ℕ) (to : ℕ) (x : List ℕ) → to + length x ≤ length out → copied out to x ≡ put out to x
unfolding copied
copied_fits out to x h = rw (le-leb (to + length x) (length out) h)

pub copied_not : (out : List ℕ) (to : ℕ) (x : List ℕ) → leb (to + length x) (length out) ≡ false → out ≡ copied out to x
unfolding copied
copied_not out to x h = rw h
