-- Laws of the hits of the pointer table's entries, 64 bytes of 1 or 0 for a quarter of them, and of the words made of them.
use Prim.Native.Nat.{ℕ, suc, ◌+◌, ◌-◌, ◌*◌, ◌/◌, ◌%◌, ◌^◌, ◌≤◌, ◌<◌}
use mathlib.Core.Path.{◌≡◌, refl, ap, sym, ◌∙◌}
use mathlib.Core.Bool.{Bool, true, false}
use mathlib.Core.List.{List}
use native.Mathlib.Nat.{add-zero}
use native.Mathlib.Omega.{arith}
use borrow.Author.Tests.{eqb-true, eqb-false}
use lib.Dec.{eqb}
use lib.ListN.{length, get_or, set}
use lib.Pow.{pow-add, pow_mono}
use lib.Seq.{get_or-set_same, get_or-set_other}
use mir.Val.{bool_byte}
use Rattle.lineset.specs.Lines.{packed, set_of}
use Rattle.facts.proofs.Bools.{bool_byte_lt}
use Rattle.scanline.specs.Pointers.{entry_of, entry_index, pointer_word}
use Rattle.scanline.proofs.Pointers.{table_index_lem}
use Rattle.scanline.specs.Drawing.{pixel_touched, touches}
use Rattle.lineset.proofs.Packed.{packed_add, packed_moved}
use Rattle.lineset.specs.declared.LineSet.{LineSet}
use Rattle.lineset.proofs.Sets.{set_agree, words_make}
use Rattle.scanline.proofs.Touches.{touches_pointer, touches_other, touches_past}

-- ---- hits packed

-- four bytes of 1 or 0 as one number, multiplied: digits 21 to 24 are those of the four
four_digits : (a b c d : ℕ) → a < 2 → b < 2 → c < 2 → d < 2 → (a + 256 * b + 65536 * c + 16777216 * d) * 2113665 / 2097152 % 16 ≡ ((d * 2 + c) * 2 + b) * 2 + a
four_digits a b c d h i j k =
    let apart : (a + 256 * b + 65536 * c + 16777216 * d) * 2113665 ≡ 16513 * a + 33024 * b + 65536 * c + 2097152 * (((d * 2 + c) * 2 + b) * 2 + a) + 33554432 * (16 * b + 4128 * c + 1056832 * d) = omega arith in
    ap (λ (n : ℕ). n / 2097152 % 16) apart ∙ middle (16513 * a + 33024 * b + 65536 * c) (((d * 2 + c) * 2 + b) * 2 + a) (16 * b + 4128 * c + 1056832 * d) (omega arith) (omega arith)
  where
    middle : (low t high : ℕ) → low < 2097152 → t < 16 → (low + 2097152 * t + 33554432 * high) / 2097152 % 16 ≡ t
    middle low t high l m = omega arith

packed_four : (p : ℕ → Bool) (from : ℕ) → packed p from 4 ≡ ((bool_byte (p (from + 3)) * 2 + bool_byte (p (from + 2))) * 2 + bool_byte (p (from + 1))) * 2 + bool_byte (p from)
unfolding packed
packed_four p from =
    let one : suc from ≡ from + 1 = omega arith in
    let two : suc (suc from) ≡ from + 2 = omega arith in
    let three : suc (suc (suc from)) ≡ from + 3 = omega arith in
    rw (three, two, one) (omega arith)

pub hits_four :
    (hits : List ℕ) (i : ℕ) →
    i + 4 ≤ length hits →
    (p : ℕ → Bool) →
    ((j : ℕ) → j < length hits → get_or hits j 0 ≡ bool_byte (p j)) →
    (get_or hits i 0 + 256 * get_or hits (i + 1) 0 + 65536 * get_or hits (i + 2) 0 + 16777216 * get_or hits (i + 3) 0) * 2113665 / 2097152 % 16 ≡ packed p i 4
hits_four hits i l p f =
    rw (f i (omega arith), f (i + 1) (omega arith), f (i + 2) (omega arith), f (i + 3) (omega arith))
    (four_digits _ _ _ _ (bool_byte_lt (p i)) (bool_byte_lt (p (i + 1))) (bool_byte_lt (p (i + 2))) (bool_byte_lt (p (i + 3))) ∙ sym (packed_four p i))

-- a turn of the loop that makes a word of 64 hits from the top four down
pub fours_down :
    (p : ℕ → Bool) (i m four : ℕ) →
    0 < i →
    i ≤ 16 →
    m ≡ packed p (4 * i) (64 - 4 * i) →
    four ≡ packed p (4 * (i - 1)) 4 →
    16 * m + four ≡ packed p (4 * (i - 1)) (64 - 4 * (i - 1))
fours_down p i m four lo hi h e =
    let n : 64 - 4 * (i - 1) ≡ 4 + (64 - 4 * i) = omega arith in
    let k : 4 * i ≡ 4 * (i - 1) + 4 = omega arith in
    let q = packed_add p 4 (4 * (i - 1)) (64 - 4 * i) in
    let g : m ≡ packed p (4 * (i - 1) + 4) (64 - 4 * i) = h ∙ ap (λ (j : ℕ). packed p j (64 - 4 * i)) k in
    rw n (omega arith)

pub fours_fit : (i m four : ℕ) → 0 < i → i ≤ 16 → m < 2 ^ (64 - 4 * i) → four < 16 → (16 * m + four < 2 ^ (64 - 4 * (i - 1))) × (16 * m + four < 2 ^ 64)
fours_fit i m four lo hi h f =
    let n : 64 - 4 * (i - 1) ≡ 4 + (64 - 4 * i) = omega arith in
    let e : 16 * m + four < 2 ^ (64 - 4 * (i - 1)) = rw (n, pow-add) (omega arith) in
    (e, omega (arith, pow_mono {i = 64 - 4 * (i - 1)} {j = 64} (omega arith)))

-- the loop's end
pub fours_end : (p : ℕ → Bool) (i m : ℕ) → i ≤ 0 → m ≡ packed p (4 * i) (64 - 4 * i) → m ≡ packed p 0 64
fours_end p i m z h =
    let a : 4 * i ≡ 0 = omega arith in
    h ∙ rw a

-- ---- the entries of the table, in quarters of 64

-- the hit of entry k of a quarter: whether an index is among its pixel bytes
unfoldable pub hit_of : List ℕ → ℕ → ℕ → ℕ → ℕ → ℕ
hit_of ram table quarter at k = bool_byte (pixel_touched (pointer_word ram table 0 (64 * quarter + k)) at)

entry_half : (table j : ℕ) → entry_index table 0 j / 2 ≡ 256 * table + j % 256
unfolding entry_index entry_of
entry_half table j = omega (arith, table_index_lem table)

-- an entry's place in its quarter, by its index
own_place : (table quarter at j : ℕ) → quarter < 4 → j < 64 → at / 2 ≡ entry_index table 0 (64 * quarter + j) / 2 → (at / 128 ≡ 4 * table + quarter) × (j ≡ at % 128 / 2)
own_place table quarter at j q l h =
    let e : at / 2 ≡ 256 * table + (64 * quarter + j) = omega (arith, entry_half table (64 * quarter + j)) in
    (omega arith, omega arith)

own_entry : (table quarter at j : ℕ) → quarter < 4 → j < 64 → at / 128 ≡ 4 * table + quarter → j ≡ at % 128 / 2 → at / 2 ≡ entry_index table 0 (64 * quarter + j) / 2
own_entry table quarter at j q l h e =
    let f : at / 2 ≡ 256 * table + (64 * quarter + j) = omega arith in
    omega (arith, entry_half table (64 * quarter + j))

-- the hits of a quarter's pixel bytes, and that of the pointer bytes set besides
module _ (ram : List ℕ) (table quarter at : ℕ) (hits : List ℕ) (q : quarter < 4)
    (f : (j : ℕ) → j < 64 → get_or hits j 0 ≡ bool_byte (pixel_touched (pointer_word ram table 0 (64 * quarter + j)) at)) where
  other : (j : ℕ) → j < 64 → (at / 2 ≡ entry_index table 0 (64 * quarter + j) / 2 → ⊥) → get_or hits j 0 ≡ bool_byte (touches ram table 0 at (64 * quarter + j))
  other j h n = f j h ∙ ap bool_byte (sym (touches_other ram table 0 at (64 * quarter + j) n))

  pub outside : (at / 128 ≡ 4 * table + quarter → ⊥) → (j : ℕ) → j < 64 → get_or hits j 0 ≡ bool_byte (touches ram table 0 at (64 * quarter + j))
  outside n j h = other j h (λ z. n (own_place table quarter at j q h z).0)

  pub within : at / 128 ≡ 4 * table + quarter → length hits ≡ 64 → (j : ℕ) → j < 64 → get_or (set hits (at % 128 / 2) 1) j 0 ≡ bool_byte (touches ram table 0 at (64 * quarter + j))
  within t l j h = go (eqb j (at % 128 / 2)) refl
    where
      go : (b : Bool) → eqb j (at % 128 / 2) ≡ b → get_or (set hits (at % 128 / 2) 1) j 0 ≡ bool_byte (touches ram table 0 at (64 * quarter + j))
      go true e =
          let m = eqb-true j (at % 128 / 2) e in
          ap (λ (k : ℕ). get_or (set hits (at % 128 / 2) 1) k 0) m
          ∙ get_or-set_same hits (at % 128 / 2) 1 0 (omega arith)
          ∙ ap bool_byte (sym (touches_pointer ram table 0 at (64 * quarter + j) (own_entry table quarter at j q h t m)))
      go false e =
          let n : (j ≡ at % 128 / 2 → ⊥) = eqb-false j (at % 128 / 2) e in
          get_or-set_other hits (at % 128 / 2) j 1 0 n ∙ other j h (λ z. n (own_place table quarter at j q h z).1)

-- ---- lines by the entries that they use

-- entries go round after 256, and the top line's entry is line 0's
entry_round : (table n k : ℕ) → entry_index table 0 (256 * n + k) ≡ entry_index table 0 k
unfolding entry_index entry_of
entry_round table n k = omega arith

entry_top : (table top line : ℕ) → entry_index table top line ≡ entry_index table 0 (top + line)
unfolding entry_index entry_of
entry_top table top line = omega arith

-- past standard RAM no line is touched
pub none_past : (ram : List ℕ) (table top at : ℕ) → 131072 ≤ at → table < 256 → set_of (touches ram table top at) ≡ set_of (λ (L : ℕ). false)
none_past ram table top at h t = set_agree _ _ (λ L l. touches_past ram table top at L h t)

module _ (ram : List ℕ) (table at : ℕ) where
  touches_round : (n k : ℕ) → touches ram table 0 at k ≡ touches ram table 0 at (256 * n + k)
  unfolding touches pointer_word
  touches_round n k = rw (entry_round table n k)

  touches_top : (top line : ℕ) → touches ram table top at line ≡ touches ram table 0 at (top + line)
  unfolding touches pointer_word
  touches_top top line = rw (entry_top table top line)

  pub quarter_word : (quarter m : ℕ) → m ≡ packed (λ (j : ℕ). touches ram table 0 at (64 * quarter + j)) 0 64 → m ≡ packed (touches ram table 0 at) (64 * quarter) 64
  quarter_word quarter m h =
      h
      ∙ sym (packed_moved (touches ram table 0 at) (λ (j : ℕ). touches ram table 0 at (64 * quarter + j)) (64 * quarter) 0 64 (λ i. refl))
      ∙ ap (λ (k : ℕ). packed (touches ram table 0 at) k 64) (add-zero (64 * quarter))

  -- the quarters go round after four
  pub quarter_round : (q n m : ℕ) → q ≡ n % 4 → m ≡ packed (touches ram table 0 at) (64 * q) 64 → m ≡ packed (touches ram table 0 at) (64 * n) 64
  quarter_round q n m r h =
      let e : 256 * (n / 4) + 64 * q ≡ 64 * n = omega arith in
      h
      ∙ sym (packed_moved (touches ram table 0 at) (touches ram table 0 at) (256 * (n / 4)) (64 * q) 64 (touches_round (n / 4)))
      ∙ ap (λ (k : ℕ). packed (touches ram table 0 at) k 64) e

  -- the word of 64 lines from line 64 * n on: two quarters, one behind the other, from the top line's digit on
  pub lines_word :
      (top n low high w : ℕ) →
      low ≡ packed (touches ram table 0 at) (64 * (top / 64 + n)) 64 →
      high ≡ packed (touches ram table 0 at) (64 * (top / 64 + suc n)) 64 →
      ((p : ℕ → Bool) (from : ℕ) → low ≡ packed p from 64 → high ≡ packed p (from + 64) 64 → w ≡ packed p (from + top % 64) 64) →
      w ≡ packed (touches ram table top at) (64 * n) 64
  lines_word top n low high w l h f =
      let e : 64 * (top / 64 + suc n) ≡ 64 * (top / 64 + n) + 64 = omega arith in
      let g : 64 * (top / 64 + n) + top % 64 ≡ top + 64 * n = omega arith in
      f (touches ram table 0 at) (64 * (top / 64 + n)) l (h ∙ ap (λ (k : ℕ). packed (touches ram table 0 at) k 64) e)
      ∙ ap (λ (k : ℕ). packed (touches ram table 0 at) k 64) g
      ∙ packed_moved (touches ram table 0 at) (touches ram table top at) top (64 * n) 64 (touches_top top)

  -- the four words of a set, each from two quarters
  pub set_of_words :
      (top : ℕ) (quarters words : List ℕ) →
      length words ≡ 4 →
      ((j : ℕ) → j < 4 → get_or quarters j 0 ≡ packed (touches ram table 0 at) (64 * ((top / 64 + j) % 4)) 64) →
      ((j : ℕ) → j < 4 → (p : ℕ → Bool) (from : ℕ) → get_or quarters j 0 ≡ packed p from 64 → get_or quarters ((j + 1) % 4) 0 ≡ packed p (from + 64) 64
      → get_or words j 0 ≡ packed p (from + top % 64) 64) →
      ◌≡◌ {A = LineSet} (record { words = words }) (set_of (touches ram table top at))
  set_of_words top quarters words four quarter word = words_make (touches ram table top at) (record { words = words }) four each
    where
      each : (j : ℕ) → j < 4 → get_or words j 0 ≡ packed (touches ram table top at) (64 * j) 64
      each j l =
          lines_word top j (get_or quarters j 0) (get_or quarters ((j + 1) % 4) 0) (get_or words j 0)
          (quarter_round ((top / 64 + j) % 4) (top / 64 + j) _ refl (quarter j l))
          (quarter_round ((top / 64 + (j + 1) % 4) % 4) (top / 64 + suc j) _ (omega arith) (quarter ((j + 1) % 4) (omega arith)))
          (word j l)
