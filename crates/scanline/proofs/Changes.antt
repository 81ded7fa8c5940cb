-- Laws of `changed`, what a step marks: it follows from `touches` at a store, and a line that is not changed draws the same bytes.
-- Assumes nothing.
use Prim.Native.Nat.{ℕ, ◌+◌, ◌*◌, ◌/◌, ◌%◌, ◌<◌}
use mathlib.Core.Path.{◌≡◌, refl, ap, sym, ◌∙◌}
use mathlib.Core.Bool.{Bool, true, false, not, ◌&&◌, ◌||◌, or_assoc}
use mathlib.Core.Logic.{◌⊎◌, inl, inr}
use mathlib.Core.List.{List}
use native.Mathlib.Omega.{arith}
use borrow.Author.Tests.{eqb-true, eqb-false, eq-eqb, ne_eqb, not-false}
use lib.Dec.{eqb}
use lib.ListN.{length, get_or, set}
use lib.Seq.{get_or-set_same, get_or-set_other, set-get_or}
use Rattle.facts.specs.Tests.{any}
use Rattle.facts.proofs.Bools.{or_first, or_second}
use Rattle.facts.proofs.Tests.{any_none, any_same, any_false}
use Rattle.scanline.specs.declared.Video.{Video}
use Rattle.scanline.specs.Pointers.{entry_index, pointer_word, pointer_of}
use Rattle.scanline.specs.Drawing.{View, pixel_index, drawn_byte, word_at, pixel_at, drawn, video_differs, ram_differs, changed, pixel_touched, touches}

same : (n : ℕ) → eqb n n ≡ true
same n = eq-eqb n n refl

-- no difference: the numbers are equal, and there is no later one
no_difference : (m n : ℕ) (rest : Bool) → (not (eqb m n) || rest) ≡ false → (m ≡ n) × (rest ≡ false)
no_difference m n rest h =
    (eqb-true m n (not-false (eqb m n) (or_first (not (eqb m n)) rest h)), or_second (not (eqb m n)) rest h)

-- registers that do not differ: F5, F6, and D7 and D6 of F7 are the same
module _ (v w : Video) (h : video_differs v w ≡ false) where
  after_table : (v.table ≡ w.table) × ((not (eqb v.top w.top) || not (eqb (v.control / 64) (w.control / 64))) ≡ false)
  unfolding video_differs
  after_table = no_difference v.table w.table _ h

  after_top : (v.top ≡ w.top) × (not (eqb (v.control / 64) (w.control / 64)) ≡ false)
  after_top = no_difference v.top w.top _ after_table.1

  same_control : v.control / 64 ≡ w.control / 64
  same_control = eqb-true _ _ (not-false (eqb (v.control / 64) (w.control / 64)) after_top.1)

  -- with the same RAM no pointer and no byte differs
  word_same : (ram : List ℕ) (line : ℕ) → word_at (record { video = v; ram = ram }) line ≡ word_at (record { video = w; ram = ram }) line
  unfolding word_at
  word_same ram line = rw (after_table.0, after_top.0)

  ram_same : (ram : List ℕ) (line : ℕ) → ram_differs (record { video = v; ram = ram }) (record { video = w; ram = ram }) line ≡ false
  unfolding ram_differs
  ram_same ram line =
      rw (eq-eqb _ _ (word_same ram line))
      (any_none (λ (i : ℕ). not (eqb (get_or ram (pixel_at (record { video = v; ram = ram }) line i) 0) (get_or ram (pixel_at (record { video = v; ram = ram }) line i) 0))) 0 90
      (λ i lo hi. rw (same (get_or ram (pixel_at (record { video = v; ram = ram }) line i) 0))))

pub video_same : (v : Video) → video_differs v v ≡ false
unfolding video_differs
video_same v = rw (same v.table, same v.top, same (v.control / 64))

-- between two moments with the same RAM a line changes if the registers differ
pub registers_changed : (ram : List ℕ) (v w : Video) (line : ℕ) → changed (record { video = v; ram = ram }) (record { video = w; ram = ram }) line ≡ video_differs v w
unfolding changed
registers_changed ram v w line = go (video_differs v w) refl
  where
    go : (t : Bool) → video_differs v w ≡ t → (t || ram_differs (record { video = v; ram = ram }) (record { video = w; ram = ram }) line) ≡ t
    go true e = refl
    go false e = ram_same v w e ram line

-- nothing changes between a moment and itself
pub changed_self : (v : View) (line : ℕ) → changed v v line ≡ false
changed_self v line = registers_changed v.ram v.video v.video line ∙ video_same v.video

-- two words of which a byte is the same differ if the other byte does
word_differs :
    (l l' h h' : ℕ) → (l ≡ l') ⊎ (h ≡ h') → not (eqb (l + 256 * h) (l' + 256 * h')) ≡ (not (eqb l l') || not (eqb h h'))
word_differs l l' h h' (inl e) = rw (e, same l') (go (eqb h h') refl)
  where
    go : (b : Bool) → eqb h h' ≡ b → not (eqb (l' + 256 * h) (l' + 256 * h')) ≡ not b
    go true e = rw (eq-eqb (l' + 256 * h) (l' + 256 * h') (omega (arith, eqb-true h h' e)))
    go false e = rw (ne_eqb (l' + 256 * h) (l' + 256 * h') (λ z. eqb-false h h' e (omega arith)))
word_differs l l' h h' (inr e) = rw (e, same h') (go (eqb l l') refl)
  where
    go : (b : Bool) → eqb l l' ≡ b → not (eqb (l + 256 * h') (l' + 256 * h')) ≡ (not b || false)
    go true e = rw (eq-eqb (l + 256 * h') (l' + 256 * h') (omega (arith, eqb-true l l' e)))
    go false e = rw (ne_eqb (l + 256 * h') (l' + 256 * h') (λ z. eqb-false l l' e (omega arith)))

-- a store of another byte
module _ (ram : List ℕ) (at x : ℕ) (h : at < length ram) (ne : eqb (get_or ram at 0) x ≡ false) where
  -- it makes a difference at its own place alone
  place_differs : (j : ℕ) → not (eqb (get_or ram j 0) (get_or (set ram at x) j 0)) ≡ eqb at j
  place_differs j = go (eqb at j) refl
    where
      go : (b : Bool) → eqb at j ≡ b → not (eqb (get_or ram j 0) (get_or (set ram at x) j 0)) ≡ b
      go true e = rw (← eqb-true at j e, get_or-set_same ram at x 0 h, ne)
      go false e = rw (get_or-set_other ram at j x 0 (λ z. eqb-false at j e (sym z)), same (get_or ram j 0))

  one_same : (j : ℕ) → (get_or ram j 0 ≡ get_or (set ram at x) j 0) ⊎ (get_or ram (j + 1) 0 ≡ get_or (set ram at x) (j + 1) 0)
  one_same j = go (eqb at j) refl
    where
      go : (b : Bool) → eqb at j ≡ b → (get_or ram j 0 ≡ get_or (set ram at x) j 0) ⊎ (get_or ram (j + 1) 0 ≡ get_or (set ram at x) (j + 1) 0)
      go true e = inr (sym (get_or-set_other ram at (j + 1) x 0 (λ z. let f = eqb-true at j e in omega arith)))
      go false e = inl (sym (get_or-set_other ram at j x 0 (λ z. eqb-false at j e (sym z))))

  word_touched :
      (table top line : ℕ) →
      not (eqb (pointer_word ram table top line) (pointer_word (set ram at x) table top line))
      ≡ (eqb at (entry_index table top line) || eqb at (entry_index table top line + 1))
  unfolding pointer_word
  word_touched table top line =
      word_differs _ _ _ _ (one_same (entry_index table top line))
      ∙ rw (place_differs (entry_index table top line), place_differs (entry_index table top line + 1))

  pixels_touched :
      (word : ℕ) →
      any (λ (i : ℕ). not (eqb (get_or ram (pixel_index (pointer_of word) i) 0) (get_or (set ram at x) (pixel_index (pointer_of word) i) 0))) 0 90
      ≡ pixel_touched word at
  unfolding pixel_touched
  pixels_touched word =
      any_same _ (λ (i : ℕ). eqb at (pixel_index (pointer_of word) i)) 0 90 (λ i lo hi. place_differs (pixel_index (pointer_of word) i))

-- a view after a store
abbrev pub after_store : View → ℕ → ℕ → View
after_store v at x = record { video = v.video; ram = set v.ram at x }

module _ (v : View) (at x line : ℕ) where
  store_same : eqb (get_or v.ram at 0) x ≡ true → changed v (after_store v at x) line ≡ false
  store_same e =
      ap (λ (l : List ℕ). changed v (record { video = v.video; ram = l }) line)
      (ap (λ (y : ℕ). set v.ram at y) (sym (eqb-true (get_or v.ram at 0) x e)) ∙ set-get_or v.ram at 0)
      ∙ changed_self v line

  store_other :
      at < length v.ram →
      eqb (get_or v.ram at 0) x ≡ false →
      changed v (after_store v at x) line ≡ touches v.ram v.video.table v.video.top at line
  unfolding changed ram_differs touches word_at pixel_at
  store_other h e =
      rw (
        video_same v.video,
        word_touched v.ram at x h e v.video.table v.video.top line,
        pixels_touched v.ram at x h e (pointer_word v.ram v.video.table v.video.top line),
      )
      (or_assoc
      (eqb at (entry_index v.video.table v.video.top line))
      (eqb at (entry_index v.video.table v.video.top line + 1))
      (pixel_touched (pointer_word v.ram v.video.table v.video.top line) at))

  -- a store changes the lines that it touches, unless the byte was there already
  pub store_changed :
      at < length v.ram →
      changed v (after_store v at x) line ≡ (not (eqb (get_or v.ram at 0) x) && touches v.ram v.video.table v.video.top at line)
  store_changed h = go (eqb (get_or v.ram at 0) x) refl
    where
      go : (b : Bool) → eqb (get_or v.ram at 0) x ≡ b
          → changed v (after_store v at x) line ≡ (not b && touches v.ram v.video.table v.video.top at line)
      go true e = store_same e
      go false e = store_other h e

-- D7 and D6 alone tell how a byte is drawn
drawn_by : (c d byte : ℕ) → c / 64 ≡ d / 64 → drawn_byte c byte ≡ drawn_byte d byte
unfolding drawn_byte
drawn_by c d byte e =
    let f : c / 64 % 2 ≡ d / 64 % 2 = omega arith in
    let g : c / 128 % 2 ≡ d / 128 % 2 = omega arith in
    rw (f, g)

-- a line that is not changed draws the same bytes
module _ (a b : View) (line : ℕ) (h : changed a b line ≡ false) where
  registers : video_differs a.video b.video ≡ false
  unfolding changed
  registers = or_first _ _ h

  in_ram :
      (word_at a line ≡ word_at b line)
      × (any (λ (i : ℕ). not (eqb (get_or a.ram (pixel_at a line i) 0) (get_or b.ram (pixel_at a line i) 0))) 0 90 ≡ false)
  unfolding changed ram_differs
  in_ram = no_difference (word_at a line) (word_at b line) _ (or_second (video_differs a.video b.video) _ h)

  same_byte : (i : ℕ) → i < 90 → get_or a.ram (pixel_at a line i) 0 ≡ get_or b.ram (pixel_at a line i) 0
  same_byte i l =
      eqb-true (get_or a.ram (pixel_at a line i) 0) (get_or b.ram (pixel_at a line i) 0)
      (not-false (eqb (get_or a.ram (pixel_at a line i) 0) (get_or b.ram (pixel_at a line i) 0))
      (any_false (λ (i : ℕ). not (eqb (get_or a.ram (pixel_at a line i) 0) (get_or b.ram (pixel_at a line i) 0))) 0 90 in_ram.1 i
      (omega arith)
      (omega arith)))

  same_index : (i : ℕ) → pixel_at a line i ≡ pixel_at b line i
  unfolding pixel_at
  same_index i = rw in_ram.0

  pub unchanged_drawn : (i : ℕ) → i < 90 → drawn a line i ≡ drawn b line i
  unfolding drawn
  unchanged_drawn i l =
      ap (λ (y : ℕ). drawn_byte a.video.control y) (same_byte i l ∙ ap (λ (j : ℕ). get_or b.ram j 0) (same_index i))
      ∙ drawn_by a.video.control b.video.control (get_or b.ram (pixel_at b line i) 0) (same_control a.video b.video registers)
