-- What the tests of the code say of the tests of the rules.
-- Assumes nothing.
use Prim.Native.Nat.{ℕ, ◌+◌, ◌-◌, ◌*◌, ◌≤◌, ◌<◌}
use native.Mathlib.Nat.{zero-add}
use native.Mathlib.Omega.{arith}
use mathlib.Core.Path.{◌≡◌, refl, sym, ◌∙◌}
use mathlib.Core.Bool.{Bool, true, false, cond, not, ◌&&◌, and-false}
use mathlib.Core.List.{List}
use borrow.Author.Tests.{ne_eqb, eqb-true, eqb-false, ltb-true, ltb-false, le-leb, lt-leb, not-true, not-false}
use lib.Dec.{eqb, ltb, leb}
use Rattle.std.specs.Ordering.{is_le, nat_cmp}
use Rattle.std.proofs.Common.{Less, Equal, Greater}
use lib.ListN.{length, get_or, take, drop, length-drop}
use lib.Seq.{length-take-le, get_or-take, get_or-drop}
use Rattle.facts.specs.Tests.{every}
use Rattle.facts.proofs.Bools.{both}
use Rattle.archive.specs.declared.numbers.Entry.{Entry}
use Rattle.archive.specs.declared.numbers.Header.{Header}
use Rattle.archive.specs.Format.{picture_offset}
use Rattle.archive.specs.Sound.{header_good, header_of, header_sound, sound, entry_of, entry_good, entry_sound, good_bench, good_shown, rest_zero, count_of, is_zero, fresh, frame_at}
use Rattle.facts.proofs.Tests.{every_both, below_agree, below_fails, below_more}
use Rattle.archive.proofs.Read.{HeaderIs, header_is}
use Rattle.archive.proofs.Written.{shown_most}

-- `cmp` answers as `<` and `==` do
pub is_le_cmp : (m n : ℕ) → is_le (nat_cmp m n) ≡ leb m n
is_le_cmp m n = go (ltb m n) refl (eqb m n) refl
  where
    go : (x : Bool) → ltb m n ≡ x → (y : Bool) → eqb m n ≡ y → is_le (cond x Less (cond y Equal Greater)) ≡ leb m n
    go true e y q = sym (le-leb m n (omega (arith, ltb-true m n e)))
    go false e true q = sym (le-leb m n (omega (arith, eqb-true m n q)))
    go false e false q = let ne : (m ≡ n → ⊥) = eqb-false m n q in sym (lt-leb m n (omega (arith, ltb-false m n e)))

-- a search for a test that fails: where it is left, and a turn
module _ (p : ℕ → Bool) (i : ℕ) (r : Bool) (is : r ≡ p i) where
  pub search_fails : (n : ℕ) → i < n → not r ≡ true → false ≡ every p 0 n
  search_fails n l h = sym (below_fails p n i l (sym is ∙ not-true r h))

  pub search_more : every p 0 i ≡ true → not r ≡ false → every p 0 (i + 1) ≡ true
  search_more h t = below_more p i h (sym is ∙ not-false r t)

-- the bytes of a picture behind those used
abbrev pub unshown : List ℕ → ℕ → ℕ → List ℕ
unshown a f used = take (f + used + (23040 - used) - (f + used)) (drop (f + used) a)

module _ (a : List ℕ) (f used : ℕ) (u : used ≤ 23040) (l : f + 23040 ≤ length a) where
  unshown_length : length (unshown a f used) ≡ 23040 - used
  unshown_length =
      length-take-le (f + used + (23040 - used) - (f + used)) (drop (f + used) a) (simp length-drop (omega arith)) ∙ omega arith

  unshown_at : (i : ℕ) → i < 23040 - used → get_or (unshown a f used) i 0 ≡ get_or a (f + used + i) 0
  unshown_at i o =
      let w : i < f + used + (23040 - used) - (f + used) = omega arith in
      rw (get_or-take (f + used + (23040 - used) - (f + used)) (drop (f + used) a) i 0 w, get_or-drop (f + used) a i 0)

-- the fields and the picture of an entry of an archive whose header is sound
abbrev pub row_sound : List ℕ → ℕ → Bool
row_sound a k = entry_good (entry_of a k) (picture_offset (count_of a) k) && rest_zero a k

module _ (a : List ℕ) (k n : ℕ) (e : Entry) (g : Bool) (at : n ≡ count_of a) (is : e ≡ entry_of a k) (good : g ≡ entry_good e (20 + 16 * n + 23040 * k)) where
  pub row_fails : g ≡ false → false ≡ row_sound a k
  unfolding picture_offset
  row_fails h = rw (← is, ← at, ← good, h)

  pub row_known : g ≡ true → (e.shown ≤ 256) × (e.offset ≡ 20 + 16 * n + 23040 * k)
  unfolding entry_good
  row_known h =
      let t = both (good_bench e.bench && good_shown e.shown) (eqb e.offset (20 + 16 * n + 23040 * k)) (sym good ∙ h) in
      (shown_most e.shown (both (good_bench e.bench) (good_shown e.shown) t.0).1, eqb-true e.offset (20 + 16 * n + 23040 * k) t.1)

  rest_is : every (is_zero a (e.offset + e.shown * 90)) 0 (23040 - e.shown * 90) ≡ rest_zero a k
  unfolding rest_zero entry_of
  rest_is = rw is

  -- its unshown lines, cut from the bytes
  pub row_decides : g ≡ true → 20 + 16 * n + 23040 * k + 23040 ≤ length a → (t : Bool)
      → t ≡ every (is_zero (unshown a (20 + 16 * n + 23040 * k) (e.shown * 90)) 0) 0 (length (unshown a (20 + 16 * n + 23040 * k) (e.shown * 90))) → t ≡ row_sound a k
  unfolding picture_offset is_zero
  row_decides h l t z =
      let m = row_known h in
      let f : ℕ = 20 + 16 * n + 23040 * k in
      let used : ℕ = e.shown * 90 in
      let u : used ≤ 23040 = omega (arith, m.0) in
      rw (← is, ← at, ← good, h)
      (z ∙ rw (unshown_length a f used u l) (below_agree (is_zero (unshown a f used) 0) (is_zero a (e.offset + used)) (23040 - used) (λ i o. rw (zero-add, m.1, unshown_at a f used u l i o))) ∙ rest_is)

-- the entries, once by their fields and pictures and once by their pairs
module _ (a : List ℕ) (n : ℕ) where
  entries_are : every (entry_sound a) 0 n ≡ (every (row_sound a) 0 n && every (fresh (frame_at a)) 0 n)
  unfolding entry_sound
  entries_are = every_both (row_sound a) (fresh (frame_at a)) 0 n

  pub rows_fail : every (row_sound a) 0 n ≡ false → false ≡ every (entry_sound a) 0 n
  rows_fail h = sym (entries_are ∙ rw h)

  pub pairs_decide : every (row_sound a) 0 n ≡ true → every (fresh (frame_at a)) 0 n ≡ every (entry_sound a) 0 n
  pairs_decide h = sym (entries_are ∙ rw h)

-- fewer bytes than a header has
pub too_short : (a : List ℕ) → length a < 20 → false ≡ header_sound a
unfolding header_sound header_good
too_short a h = rw (ne_eqb (length a) (20 + 23056 * (header_of a).count) (λ e. omega arith), and-false)

-- a header that was read, and tested
pub header_told : (a : List ℕ) (h : Header) (g : Bool) → h ≡ header_of a → g ≡ header_good h (length a) → header_sound a ≡ g
unfolding header_sound
header_told a h g e is = rw (← e) (sym is)

pub header_counts : (a : List ℕ) (h : Header) → h ≡ header_of a → h.count ≡ count_of a
unfolding header_of count_of
header_counts a h e = rw e

-- an archive by its header and its entries
module _ (a : List ℕ) (g : Bool) (is : g ≡ header_sound a) where
  pub header_fails : not g ≡ true → false ≡ sound a
  unfolding sound
  header_fails h = rw (← is, not-true g h)

  pub header_known : not g ≡ false → HeaderIs a
  header_known h = header_is a (sym is ∙ not-false g h)

  pub entries_decide : not g ≡ false → (n : ℕ) → n ≡ count_of a → (r : Bool) → r ≡ every (entry_sound a) 0 n → r ≡ sound a
  unfolding sound
  entries_decide h n at r e = rw (← is, not-false g h, ← at) e
