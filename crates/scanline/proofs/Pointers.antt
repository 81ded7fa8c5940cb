-- Laws of pointers and of the indexes that they name.
-- Assumes nothing.
use Prim.Native.Nat.{ℕ, ◌+◌, ◌*◌, ◌/◌, ◌%◌, ◌≤◌, ◌<◌}
use mathlib.Core.Path.{◌≡◌, refl, ap, ◌∙◌}
use mathlib.Core.Bool.{Bool, true, false, cond, ◌||◌, or-true}
use mathlib.Core.Logic.{◌⊎◌, inl, inr}
use native.Mathlib.Omega.{arith}
use borrow.Author.Tests.{ltb-false, eqb-false, lt-ltb, le-ltb, ne_eqb}
use lib.Dec.{eqb, ltb}
use mathlib.Core.List.{List}
use Rattle.facts.proofs.Bools.{or_first, or_second}
use Rattle.scanline.specs.Pointers.{table_index, entry_of, entry_index, pointer_word, pointer_of, pointer_refusal, word_of, made_pointer}
use Rattle.scanline.specs.declared.Pointer.{Pointer}

-- the table's place is 512 x F5
pub table_index_lem : (table : ℕ) → table_index table ≡ 512 * table
unfolding table_index
table_index_lem table = omega arith

-- a line's entry stands at an even place of standard RAM
pub entry_index_lt : (table top line : ℕ) → table < 256 → entry_index table top line + 1 < 131072
unfolding entry_index entry_of
entry_index_lt table top line h = omega (arith, table_index_lem table)

pub entry_index_even : (table top line : ℕ) → entry_index table top line % 2 ≡ 0
unfolding entry_index
entry_index_even table top line = omega (arith, table_index_lem table)

-- an entry is line 0's where the top line is the first
pub entry_0_index : (table entry : ℕ) → entry < 256 → entry_index table 0 entry ≡ table_index table + 2 * entry
unfolding entry_index entry_of
entry_0_index table entry h = omega arith

pub word_by_entry : (ram : List ℕ) (table top line : ℕ) → pointer_word ram table 0 (entry_of top line) ≡ pointer_word ram table top line
unfolding pointer_word entry_index entry_of
word_by_entry ram table top line =
    let e : (0 + (top + line) % 256) % 256 ≡ (top + line) % 256 = omega arith in rw e

-- the three tests of a refusal
abbrev refused : Pointer → Bool
refused p = ltb 7 p.block || (ltb 16383 p.start || eqb (p.start / 8 % 2) 1)

test_true :
    (p : Pointer) → (7 < p.block) ⊎ ((ltb 16383 p.start ≡ true) ⊎ (eqb (p.start / 8 % 2) 1 ≡ true)) → refused p ≡ true
test_true p (inl h) = rw (lt-ltb 7 p.block h)
test_true p (inr (inl h)) = rw (h, or-true (ltb 7 p.block))
test_true p (inr (inr h)) = rw (h, or-true (ltb 16383 p.start), or-true (ltb 7 p.block))

-- refused: no word, and the number 3
pub made_refused :
    (p : Pointer) →
    (7 < p.block) ⊎ ((ltb 16383 p.start ≡ true) ⊎ (eqb (p.start / 8 % 2) 1 ≡ true)) →
    made_pointer p ≡ record { word = 0; refusal = 3 }
unfolding made_pointer pointer_refusal
made_refused p h = rw (test_true p h)

-- taken: the word, and the number 0
pub made_accepted :
    (p : Pointer) →
    p.block ≤ 7 →
    ltb 16383 p.start ≡ false →
    eqb (p.start / 8 % 2) 1 ≡ false →
    made_pointer p ≡ record { word = word_of p; refusal = 0 }
unfolding made_pointer pointer_refusal
made_accepted p b s e = rw (le-ltb 7 p.block b, s, e)

pub word_of_lt : (block start : ℕ) → block ≤ 7 → ltb 16383 start ≡ false → block * 8192 + (start / 16 * 8 + start % 8) < 65536
word_of_lt block start b s = omega (arith, ltb-false 16383 start s)

word_read : (w : ℕ) → word_of (pointer_of w) ≡ w
unfolding word_of pointer_of
word_read w = omega arith

-- making undoes reading
pub make_read : (w : ℕ) → w < 65536 → made_pointer (pointer_of w) ≡ record { word = w; refusal = 0 }
unfolding pointer_of
make_read w h =
    made_accepted (pointer_of w) (omega arith) (le-ltb 16383 (pointer_of w).start (omega arith))
    (ne_eqb ((pointer_of w).start / 8 % 2) 1 (λ (e : (pointer_of w).start / 8 % 2 ≡ 1). omega arith))
    ∙ ap (λ (x : ℕ). record { word = x; refusal = 0 }) (word_read w)

-- a pointer that is not refused: no test holds of it
not_refused : (p : Pointer) → pointer_refusal p ≡ 0 → refused p ≡ false
unfolding pointer_refusal
not_refused p h = go (refused p) h
  where
    go : (b : Bool) → ◌≡◌ {A = ℕ} (cond b 3 0) 0 → b ≡ false
    go true e = cc
    go false e = refl

-- reading undoes making
pub read_make : (p : Pointer) → pointer_refusal p ≡ 0 → pointer_of (word_of p) ≡ p
unfolding pointer_of word_of
read_make p h =
    let n = not_refused p h in
    let n' = or_second (ltb 7 p.block) (ltb 16383 p.start || eqb (p.start / 8 % 2) 1) n in
    let lo : p.start ≤ 16383 = ltb-false 16383 p.start (or_first (ltb 16383 p.start) (eqb (p.start / 8 % 2) 1) n') in
    let even : (p.start / 8 % 2 ≡ 1 → ⊥) = eqb-false (p.start / 8 % 2) 1 (or_second (ltb 16383 p.start) (eqb (p.start / 8 % 2) 1) n') in
    let b : word_of p / 8192 ≡ p.block = omega arith in
    let s : 16 * (word_of p % 8192 / 8) + word_of p % 8192 % 8 ≡ p.start = omega arith in
    rw (b, s)
