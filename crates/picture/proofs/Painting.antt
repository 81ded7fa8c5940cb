-- Laws of `painted`: a picture with some of its lines drawn, byte by byte and line by line.
-- Assumes nothing.
use Prim.Native.Nat.{ℕ, ◌+◌, ◌-◌, ◌*◌, ◌/◌, ◌%◌, ◌≤◌, ◌<◌}
use native.Mathlib.Omega.{arith}
use mathlib.Core.Path.{◌≡◌, refl, sym, ◌∙◌, ap}
use mathlib.Core.Bool.{Bool, true, false, cond, ◌&&◌, ◌||◌}
use mathlib.Core.List.{List, ◌++◌}
use borrow.Author.Tests.{eqb-true, eqb-false, ltb-true, ltb-false, lt-ltb, le-ltb, le-leb, leb-true, leb-false}
use lib.Dec.{eqb, ltb, leb}
use lib.ListN.{length, get_or, take, drop, length-append, length-drop, get_or-append}
use Rattle.std.proofs.lemmas.List.{length-take-le, get_or-take, get_or-drop, get_or-append_right}
use borrow.Rule.Slice.PartMut.{put_mid, post_of}
use Rattle.std.specs.Prelude.{None, Some}
use Rattle.facts.specs.Lists.{overlaid}
use Rattle.facts.specs.Tests.{first_of}
use Rattle.facts.proofs.Overlaid.{overlaid_length, overlaid_at, overlaid_none, overlaid_same, overlaid_or, overlaid_make, between, between_in}
use Rattle.facts.proofs.Searches.{Found, found_at, found_none}
use Rattle.scanline.specs.declared.Pointer.{Pointer}
use Rattle.scanline.specs.Pointers.{pointer_of, pointer_word}
use Rattle.scanline.specs.Drawing.{View, pixel_index, drawn_byte, word_at, pixel_at, drawn}
use Rattle.picture.specs.Pictures.{painted}

-- byte k of a picture as it is drawn
abbrev pub cell : View → ℕ → ℕ
cell v k = drawn v (k / 90) (k % 90)

module _ (v : View) (picture : List ℕ) where
  pub painted_length : (lines : ℕ → Bool) → length (painted lines v picture) ≡ length picture
  unfolding painted
  painted_length lines = overlaid_length (λ (k : ℕ). lines (k / 90)) (cell v) picture

  -- byte k, and byte i of line L
  pub painted_at : (lines : ℕ → Bool) (k : ℕ) → k < length picture → get_or (painted lines v picture) k 0 ≡ cond (lines (k / 90)) (cell v k) (get_or picture k 0)
  unfolding painted
  painted_at lines k l = overlaid_at (λ (j : ℕ). lines (j / 90)) (cell v) picture k l

  pub painted_byte : (lines : ℕ → Bool) (L i : ℕ) → i < 90 → 90 * L + i < length picture
      → get_or (painted lines v picture) (90 * L + i) 0 ≡ cond (lines L) (drawn v L i) (get_or picture (90 * L + i) 0)
  painted_byte lines L i h l =
      let e : (90 * L + i) / 90 ≡ L = omega arith in
      let f : (90 * L + i) % 90 ≡ i = omega arith in
      painted_at lines (90 * L + i) l ∙ rw (e, f)

  pub painted_none : (lines : ℕ → Bool) → ((L : ℕ) → lines L ≡ false) → painted lines v picture ≡ picture
  unfolding painted
  painted_none lines h = overlaid_none (λ (k : ℕ). lines (k / 90)) (cell v) picture (λ k l. h (k / 90))

  -- sets that agree on the picture's lines
  pub painted_agree : (p q : ℕ → Bool) (n : ℕ) → length picture ≡ n * 90 → ((L : ℕ) → L < n → p L ≡ q L) → painted p v picture ≡ painted q v picture
  unfolding painted
  painted_agree p q n size h =
      overlaid_same (λ (k : ℕ). p (k / 90)) (λ (k : ℕ). q (k / 90)) (cell v) (cell v) picture (λ k l. h (k / 90) (omega arith)) (λ k l t. refl)

  pub painted_same : (p q : ℕ → Bool) → ((L : ℕ) → p L ≡ q L) → painted p v picture ≡ painted q v picture
  unfolding painted
  painted_same p q h =
      overlaid_same (λ (k : ℕ). p (k / 90)) (λ (k : ℕ). q (k / 90)) (cell v) (cell v) picture (λ k l. h (k / 90)) (λ k l t. refl)

  -- lines drawn over lines drawn
  pub painted_or : (p q : ℕ → Bool) → painted p v (painted q v picture) ≡ painted (λ (L : ℕ). p L || q L) v picture
  unfolding painted
  painted_or p q = overlaid_or (λ (k : ℕ). p (k / 90)) (λ (k : ℕ). q (k / 90)) (cell v) picture

  -- the 90 bytes of one line
  pub one_line : (L : ℕ) → overlaid (between (L * 90) (L * 90 + 90)) (cell v) picture ≡ painted (λ (M : ℕ). eqb M L) v picture
  unfolding painted between
  one_line L = overlaid_same (between (L * 90) (L * 90 + 90)) (λ (k : ℕ). eqb (k / 90) L) (cell v) (cell v) picture (λ k l. go k (eqb (k / 90) L) refl) (λ k l t. refl)
    where
      go : (k : ℕ) (b : Bool) → eqb (k / 90) L ≡ b → (leb (L * 90) k && ltb k (L * 90 + 90)) ≡ b
      go k true e = let z = eqb-true (k / 90) L e in rw (le-leb (L * 90) k (omega arith), lt-ltb k (L * 90 + 90) (omega arith))
      go k false e = first k (eqb-false (k / 90) L e) (leb (L * 90) k) refl
        where
          first : (k : ℕ) → (k / 90 ≡ L → ⊥) → (b : Bool) → leb (L * 90) k ≡ b → (b && ltb k (L * 90 + 90)) ≡ false
          first k ne true f = le-ltb k (L * 90 + 90) (omega (arith, leb-true (L * 90) k f))
          first k ne false f = refl

-- a part of a list, written anew by a rule of the index
put_part : (f : ℕ → ℕ) (a k : ℕ) (xs ys : List ℕ) → a + k ≤ length xs → length ys ≡ k → ((i : ℕ) → i < k → get_or ys i 0 ≡ f (a + i))
    → put_mid a k xs ys ≡ overlaid (between a (a + k)) f xs
unfolding between
put_part f a k xs ys fits size h = overlaid_make (between a (a + k)) f xs (put_mid a k xs ys) whole (λ j l. go j l (leb a j) refl (ltb j (a + k)) refl)
  where
    front : length (take a xs) ≡ a
    front = length-take-le a xs (omega arith)

    whole : length (put_mid a k xs ys) ≡ length xs
    whole = simp (length-append, length-drop) (omega (arith, front))

    behind : (j : ℕ) → a ≤ j → get_or (put_mid a k xs ys) j 0 ≡ get_or (ys ++ post_of a k xs) (j - a) 0
    behind j l = get_or-append_right (take a xs) (ys ++ post_of a k xs) a j 0 front l

    go : (j : ℕ) → j < length xs → (t : Bool) → leb a j ≡ t → (u : Bool) → ltb j (a + k) ≡ u
        → get_or (put_mid a k xs ys) j 0 ≡ cond (t && u) (f j) (get_or xs j 0)
    go j l false e u d =
        let n : j < a = omega (arith, leb-false a j e) in
        get_or-append (take a xs) (ys ++ post_of a k xs) 0 j (omega (arith, front)) ∙ get_or-take a xs j 0 n
    go j l true e true d =
        let n = leb-true a j e in
        let m = ltb-true j (a + k) d in
        let z : a + (j - a) ≡ j = omega arith in
        behind j n ∙ get_or-append ys (post_of a k xs) 0 (j - a) (omega arith) ∙ h (j - a) (omega arith) ∙ ap f z
    go j l true e false d =
        let n = leb-true a j e in
        let m = ltb-false j (a + k) d in
        let z : a + (k + (j - a - k)) ≡ j = omega arith in
        behind j n
        ∙ get_or-append_right ys (post_of a k xs) k (j - a) 0 size (omega arith)
        ∙ get_or-drop k (drop a xs) (j - a - k) 0
        ∙ get_or-drop a xs (k + (j - a - k)) 0
        ∙ ap (λ (i : ℕ). get_or xs i 0) z

-- the 90 bytes of a line, each drawn by the line's own pointer
pub line_done : (v : View) (L word : ℕ) (p : Pointer) (xs ys : List ℕ) → L < 256 → length xs ≡ 23040 → length ys ≡ 90
    → word ≡ pointer_word v.ram v.video.table v.video.top L → p ≡ pointer_of word
    → ((i : ℕ) → i < 90 → get_or ys i 0 ≡ drawn_byte v.video.control (get_or v.ram (pixel_index p i) 0))
    → put_mid (L * 90) 90 xs ys ≡ painted (λ (M : ℕ). eqb M L) v xs
unfolding drawn pixel_at word_at
line_done v L word p xs ys low size long w r h =
    put_part (cell v) (L * 90) 90 xs ys (omega arith) long
    (λ i l.
    let d : (L * 90 + i) / 90 ≡ L = omega arith in
    let m : (L * 90 + i) % 90 ≡ i = omega arith in
    rw (d, m) (h i l ∙ rw (r, w)))
    ∙ one_line v xs L

-- byte k of a picture by the pointer of the line that starts at `first`
unfoldable pub line_byte : ℕ → List ℕ → Pointer → ℕ → ℕ → ℕ
line_byte control ram p first k = drawn_byte control (get_or ram (pixel_index p (k - first)) 0)

-- byte i of the line
pub line_byte_lem : (control : ℕ) (ram : List ℕ) (p : Pointer) (first i at b : ℕ) → at ≡ pixel_index p i → b ≡ drawn_byte control (get_or ram at 0)
    → b ≡ line_byte control ram p first (first + i)
unfolding line_byte
line_byte_lem control ram p first i at b e f =
    let z : first + i - first ≡ i = omega arith in
    f ∙ rw (z, e)

-- with the line's own pointer the 90 bytes are the line drawn
pub line_over : (v : View) (L word : ℕ) (p : Pointer) (xs ys : List ℕ) → word ≡ pointer_word v.ram v.video.table v.video.top L → p ≡ pointer_of word
    → ys ≡ overlaid (between (L * 90) (L * 90 + 90)) (line_byte v.video.control v.ram p (L * 90)) xs
    → ys ≡ painted (λ (M : ℕ). eqb M L) v xs
unfolding line_byte drawn pixel_at word_at
line_over v L word p xs ys w r e =
    e
    ∙ overlaid_same (between (L * 90) (L * 90 + 90)) (between (L * 90) (L * 90 + 90)) (line_byte v.video.control v.ram p (L * 90)) (cell v) xs (λ k l. refl)
    (λ k l t. same k (between_in (L * 90) (L * 90 + 90) k t))
    ∙ one_line v xs L
  where
    same : (k : ℕ) → (L * 90 ≤ k) × (k < L * 90 + 90) → line_byte v.video.control v.ram p (L * 90) k ≡ cell v k
    same k h =
        let d : k / 90 ≡ L = omega (arith, h.0, h.1) in
        let m : k % 90 ≡ k - L * 90 = omega (arith, h.0, h.1) in
        rw (d, m, r, w)

-- ---- line by line: the lines below n that a set has

unfoldable pub passed : (ℕ → Bool) → ℕ → ℕ → Bool
passed p n L = ltb L n && p L

-- line k is the next of the set, or none is
passed_next : (p : ℕ → Bool) (n m k L : ℕ) → Found p n m k → (eqb L k || passed p n L) ≡ passed p (k + 1) L
unfolding passed
passed_next p n m k L r = go (eqb L k) refl (ltb L n) refl (ltb L (k + 1)) refl
  where
    go : (a : Bool) → eqb L k ≡ a → (b : Bool) → ltb L n ≡ b → (d : Bool) → ltb L (k + 1) ≡ d → (a || (b && p L)) ≡ (d && p L)
    go true e b f true g = sym (ap p (eqb-true L k e) ∙ r.holds)
    go true e b f false g = absurd (omega (arith, eqb-true L k e, ltb-false L (k + 1) g))
    go false e true f true g = refl
    go false e true f false g = absurd (omega (arith, r.low, ltb-true L n f, ltb-false L (k + 1) g))
    go false e false f true g =
        let ne : (L ≡ k → ⊥) = eqb-false L k e in sym (r.before L (ltb-false L n f) (omega (arith, ltb-true L (k + 1) g)))
    go false e false f false g = refl

passed_all : (p : ℕ → Bool) (n L : ℕ) → ((j : ℕ) → n ≤ j → j < 256 → p j ≡ false) → L < 256 → passed p n L ≡ p L
unfolding passed
passed_all p n L h l = go (ltb L n) refl
  where
    go : (b : Bool) → ltb L n ≡ b → (b && p L) ≡ p L
    go true e = refl
    go false e = sym (h L (ltb-false L n e) l)

module _ (p : ℕ → Bool) (v : View) (xs : List ℕ) where
  pub passed_start : xs ≡ painted (passed p 0) v xs
  unfolding passed
  passed_start = sym (painted_none v xs (passed p 0) (λ L. ap (λ (b : Bool). b && p L) (le-ltb L 0 (omega arith))))

  pub passed_turn : (n m k : ℕ) (ys zs : List ℕ) → first_of p n m ≡ Some k → ys ≡ painted (passed p n) v xs → zs ≡ painted (λ (L : ℕ). eqb L k) v ys
      → zs ≡ painted (passed p (k + 1)) v xs
  passed_turn n m k ys zs r e f =
      f ∙ ap (λ (l : List ℕ). painted (λ (L : ℕ). eqb L k) v l) e
      ∙ painted_or v xs (λ (L : ℕ). eqb L k) (passed p n)
      ∙ painted_same v xs (λ (L : ℕ). eqb L k || passed p n L) (passed p (k + 1)) (λ L. passed_next p n m k L (found_at p n m k r))

  pub passed_none : (n : ℕ) (ys : List ℕ) → length xs ≡ 23040 → n ≤ 256 → first_of p n (256 - n) ≡ None → ys ≡ painted (passed p n) v xs
      → ys ≡ painted p v xs
  passed_none n ys size l r e =
      e ∙ painted_agree v xs (passed p n) p 256 size (λ L m. passed_all p n L (λ j lo hi. found_none p n (256 - n) r j lo (omega arith)) m)

  pub passed_end : (n : ℕ) (ys : List ℕ) → length xs ≡ 23040 → ((j : ℕ) → n ≤ j → j < 256 → p j ≡ false) → ys ≡ painted (passed p n) v xs
      → ys ≡ painted p v xs
  passed_end n ys size h e = e ∙ painted_agree v xs (passed p n) p 256 size (λ L l. passed_all p n L h l)

  pub passed_nothing : (n : ℕ) (ys : List ℕ) → length xs ≡ 23040 → n < 256 → first_of p n (256 - n) ≡ None → ys ≡ painted (passed p n) v xs
      → ys ≡ painted p v xs
  passed_nothing n ys size l r = passed_end n ys size (λ j lo hi. found_none p n (256 - n) r j lo (omega arith))

  pub passed_over : (n : ℕ) (ys : List ℕ) → length xs ≡ 23040 → 256 ≤ n → ys ≡ painted (passed p n) v xs → ys ≡ painted p v xs
  passed_over n ys size l = passed_end n ys size (λ j lo hi. absurd (omega arith))

-- the lines below n, one after the other
module _ (v : View) (xs : List ℕ) where
  pub lines_start : xs ≡ painted (λ (L : ℕ). ltb L 0) v xs
  lines_start = sym (painted_none v xs (λ (L : ℕ). ltb L 0) (λ L. le-ltb L 0 (omega arith)))

  pub lines_turn : (n : ℕ) (ys zs : List ℕ) → ys ≡ painted (λ (L : ℕ). ltb L n) v xs → zs ≡ painted (λ (L : ℕ). eqb L n) v ys
      → zs ≡ painted (λ (L : ℕ). ltb L (n + 1)) v xs
  lines_turn n ys zs e f =
      f ∙ ap (λ (l : List ℕ). painted (λ (L : ℕ). eqb L n) v l) e
      ∙ painted_or v xs (λ (L : ℕ). eqb L n) (λ (L : ℕ). ltb L n)
      ∙ painted_same v xs (λ (L : ℕ). eqb L n || ltb L n) (λ (L : ℕ). ltb L (n + 1)) (λ L. go L (eqb L n) refl (ltb L n) refl)
    where
      go : (L : ℕ) (a : Bool) → eqb L n ≡ a → (b : Bool) → ltb L n ≡ b → (a || b) ≡ ltb L (n + 1)
      go L true h b g = sym (lt-ltb L (n + 1) (omega (arith, eqb-true L n h)))
      go L false h true g = sym (lt-ltb L (n + 1) (omega (arith, ltb-true L n g)))
      go L false h false g = let ne : (L ≡ n → ⊥) = eqb-false L n h in sym (le-ltb L (n + 1) (omega (arith, ltb-false L n g)))
