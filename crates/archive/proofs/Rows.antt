-- Entries as rows.
-- Assumes nothing.
use Prim.Native.Nat.{ℕ, zero, suc, ◌+◌, ◌-◌, ◌*◌, ◌≤◌, ◌<◌}
use native.Mathlib.Nat.{add-zero}
use native.Mathlib.Omega.{arith}
use mathlib.Core.Path.{◌≡◌, refl, ap, ◌∙◌}
use mathlib.Core.List.{List, []}
use lib.ListN.{length, get_or, take, drop}
use lib.Seq.{get_or-take, drop-drop}
use Rattle.std.specs.Simd.{first_chunks}
use Rattle.byte_rows.proofs.Rows.{rest_all}
use Rattle.archive.specs.declared.numbers.Entry.{Entry}
use Rattle.facts.specs.Tests.{every, first_of}
use Rattle.facts.proofs.Tests.{below_agree}
use Rattle.byte_rows.specs.Numbers.{at4}
use Rattle.byte_rows.proofs.Numbers.{at_drop}
use Rattle.archive.specs.Format.{entry_offset}
use Rattle.archive.specs.Sound.{count_of, has_pair, fresh, entry_of, frame_at, bench_at, number_at, shown_at, offset_at}
use Rattle.archive.specs.Rows.{row_at, entry_in, named}
use Rattle.archive.proofs.Pairs.{Alike, fresh_alike, first_alike}

at_take : (b : List ℕ) (m i : ℕ) → i + 4 ≤ m → at4 (take m b) i ≡ at4 b i
unfolding at4
at_take b m i h =
    let p : i < m = omega arith in
    let q : i + 1 < m = omega arith in
    let r : i + 2 < m = omega arith in
    let s : i + 3 < m = omega arith in
    rw (get_or-take m b i 0 p, get_or-take m b (i + 1) 0 q, get_or-take m b (i + 2) 0 r, get_or-take m b (i + 3) 0 s)

-- number i of the row of entry k
row_number : (a : List ℕ) (k i : ℕ) → i + 4 ≤ 16 → at4 (row_at a k) i ≡ at4 a (entry_offset k + i)
unfolding row_at
row_number a k i h = at_take (drop (entry_offset k) a) 16 i h ∙ at_drop a (entry_offset k) i

row_first : (a : List ℕ) (k : ℕ) → at4 (row_at a k) 0 ≡ at4 a (entry_offset k)
row_first a k = row_number a k 0 (omega arith) ∙ rw add-zero

pub row_entry : (a : List ℕ) (k : ℕ) → entry_in (row_at a k) ≡ entry_of a k
unfolding entry_in entry_of bench_at number_at shown_at offset_at
row_entry a k = rw (row_first a k, row_number a k 4 (omega arith), row_number a k 8 (omega arith), row_number a k 12 (omega arith))

-- the entry at the front of what stands from its place on
pub entry_here : (a : List ℕ) (k : ℕ) → entry_in (drop (20 + 16 * k) a) ≡ entry_of a k
unfolding entry_in entry_of bench_at number_at shown_at offset_at entry_offset
entry_here a k =
    rw (at_drop a (20 + 16 * k) 0, at_drop a (20 + 16 * k) 4, at_drop a (20 + 16 * k) 8, at_drop a (20 + 16 * k) 12, add-zero)

pub rows_alike : (rows : List (List ℕ)) (a : List ℕ) (n : ℕ) → ((k : ℕ) → k < n → get_or rows k [] ≡ row_at a k) → Alike (named rows) (frame_at a) n
unfolding named frame_at bench_at number_at
rows_alike rows a n h = record {
  bench = λ j l. ap (λ (r : List ℕ). at4 r 0) (h j l) ∙ row_first a j;
  number = λ j l. ap (λ (r : List ℕ). at4 r 4) (h j l) ∙ row_number a j 4 (omega arith);
}

pub rows_unique : (rows : List (List ℕ)) (a : List ℕ) (n : ℕ) → length rows ≡ n → ((k : ℕ) → k < n → get_or rows k [] ≡ row_at a k)
    → every (fresh (named rows)) 0 (length rows) ≡ every (fresh (frame_at a)) 0 n
rows_unique rows a n e h =
    rw e (below_agree (fresh (named rows)) (fresh (frame_at a)) n (λ k l. fresh_alike (named rows) (frame_at a) n (rows_alike rows a n h) k l))

pub rows_find : (rows : List (List ℕ)) (a : List ℕ) (n bench number : ℕ) → length rows ≡ n → n ≡ count_of a → ((k : ℕ) → k < n → get_or rows k [] ≡ row_at a k)
    → first_of (has_pair (named rows) bench number) 0 (length rows) ≡ first_of (has_pair (frame_at a) bench number) 0 (count_of a)
rows_find rows a n bench number e at h = rw (e, ← at) (first_alike (named rows) (frame_at a) n (rows_alike rows a n h) bench number)

-- ---- rows cut from the bytes

chunk_at : (m k : ℕ) (xs : List ℕ) → k < m → get_or (first_chunks 16 m xs) k [] ≡ take 16 (drop (16 * k) xs)
chunk_at zero k xs l = absurd (omega arith)
chunk_at (suc m) zero xs l = refl
chunk_at (suc m) (suc k) xs l =
    let e : 16 + 16 * k ≡ 16 * suc k = omega arith in
    chunk_at m k (drop 16 xs) (omega arith) ∙ rw (drop-drop (16 * k) 16 xs, e)

pub rows_cut_at : (a : List ℕ) (n m k : ℕ) (rows : List (List ℕ)) → rows ≡ first_chunks 16 m (take (length a - 20) (drop 20 a)) → k < n → n ≤ m
    → get_or (take n rows) k [] ≡ row_at a k
unfolding row_at entry_offset
rows_cut_at a n m k rows e l h =
    get_or-take n rows k [] l
    ∙ rw (e, rest_all a 20) (chunk_at m k (drop 20 a) (omega arith) ∙ rw (drop-drop (16 * k) 20 a))

pub entry_from : (a : List ℕ) (k : ℕ) (e : Entry) → e ≡ entry_in (take (length a - (20 + 16 * k)) (drop (20 + 16 * k) a)) → e ≡ entry_of a k
entry_from a k e is = is ∙ rw (rest_all a (20 + 16 * k)) (entry_here a k)
