-- What reading a frame answers and leaves, rung by rung.
-- Assumes nothing.
use Prim.Native.Nat.{ℕ, ◌+◌, ◌-◌, ◌*◌, ◌≤◌}
use native.Mathlib.Omega.{arith}
use mathlib.Core.Path.{◌≡◌, refl, sym, ap, ◌∙◌}
use mathlib.Core.Bool.{Bool, true, false, cond}
use mathlib.Core.List.{List}
use borrow.Author.Tests.{eq-eqb, ne_eqb}
use lib.Dec.{eqb, ltb}
use lib.ListN.{length, take, drop}
use Rattle.std.specs.Prelude.{Result, Ok, Err}
use Rattle.refusal.specs.declared.Refusal.{Refusal}
use Rattle.refusal.specs.declared.Refusal.TheVariants.{BadFrame}
use Rattle.byte_rows.specs.Rows.{copied}
use Rattle.byte_rows.proofs.Rows.{copied_fits, put_start}
use Rattle.archive.specs.declared.numbers.Entry.{Entry}
use Rattle.archive.specs.Format.{picture_offset}
use Rattle.archive.specs.Sound.{count_of, entry_of, sound, shown_at, lines_at}
use Rattle.archive.specs.Answers.{EntryRead, no_entry, entry_refusal, entry_answer}
use Rattle.archive.proofs.Asking.{EntryGiven, entry_given}
use Rattle.archive.proofs.Read.{sound_is, lines_length}
use Rattle.archive.proofs.Written.{shown_most}
use Rattle.archive_read.specs.Reading.{read_answer, read_picture}

-- an entry that a sound archive gave
pub gave : (a : List ℕ) (k : ℕ) (e : Entry) → sound a ≡ true → cond (ltb k (count_of a)) (Ok (entry_of a k)) (Err BadFrame) ≡ Ok e
    → ◌≡◌ {A = EntryRead} (record { entry = e; refusal = 0 }) (entry_answer a k)
unfolding entry_answer entry_refusal
gave a k e is given = go (ltb k (count_of a)) refl given
  where
    go : (x : Bool) → ltb k (count_of a) ≡ x → ◌≡◌ {A = Result Entry Refusal} (cond x (Ok (entry_of a k)) (Err BadFrame)) (Ok e)
        → ◌≡◌ {A = EntryRead} (record { entry = e; refusal = 0 }) (cond (eqb (cond (sound a) (cond (ltb k (count_of a)) 0 11) 10) 0) (record { entry = entry_of a k; refusal = 0 }) (record { entry = no_entry; refusal = cond (sound a) (cond (ltb k (count_of a)) 0 11) 10 }))
    go true t h = let same : entry_of a k ≡ e = cc in rw (is, t, same)
    go false t h = let z : ◌≡◌ {A = ℕ} 0 1 = cc in absurd (omega arith)

-- an entry that is given, and its lines
module _ (a : List ℕ) (k : ℕ) (r : EntryRead) (is : r ≡ entry_answer a k) (z : r.refusal ≡ 0) where
  taken : EntryGiven a k
  taken = entry_given a k (ap (λ (e : EntryRead). e.refusal) (sym is) ∙ z)

  entry_is : r.entry ≡ entry_of a k
  entry_is = ap (λ (e : EntryRead). e.entry) (is ∙ taken.given)

  most : shown_at a k ≤ 256
  most = shown_most (shown_at a k) ((sound_is a taken.is_sound).each k taken.below).shown

  -- the whole picture lies inside, and its shown lines in it
  pub picture_inside : (r.entry.offset + 23040 ≤ length a) × (r.entry.shown ≤ 256)
  unfolding entry_of picture_offset
  picture_inside =
      let s = sound_is a taken.is_sound in
      rw entry_is (omega (arith, s.head.size, taken.below, (s.each k taken.below).offset), most)

  lines_are : (from end : ℕ) → from ≡ r.entry.offset → end ≡ from + r.entry.shown * 90 → take (end - from) (drop from a) ≡ lines_at a k
  unfolding lines_at entry_of
  lines_are from end f m = let n : end - from ≡ r.entry.shown * 90 = omega arith in rw (n, f, entry_is)

  lines_fit : length (lines_at a k) ≤ 23040
  lines_fit = omega (arith, most, lines_length a (sound_is a taken.is_sound) k taken.below)

module _ (a : List ℕ) (k : ℕ) (picture : List ℕ) where
  pub read_size : (length picture ≡ 23040 → ⊥)
      → (record { entry = no_entry; refusal = 2 } ≡ read_answer a k (length picture)) × (picture ≡ read_picture a k picture)
  unfolding read_answer read_picture
  read_size h = rw (ne_eqb (length picture) 23040 h) (refl, refl)

  module _ (h : length picture ≡ 23040) (r : EntryRead) (is : r ≡ entry_answer a k) where
    asked : read_answer a k (length picture) ≡ r
    unfolding read_answer
    asked = rw (eq-eqb (length picture) 23040 h) (sym is)

    pub read_refused : (r.refusal ≡ 0 → ⊥) → (r ≡ read_answer a k (length picture)) × (picture ≡ read_picture a k picture)
    unfolding read_picture
    read_refused n = (sym asked, rw (asked, ne_eqb r.refusal 0 n))

    pub read_done : r.refusal ≡ 0 → (from end : ℕ) → from ≡ r.entry.offset → end ≡ from + r.entry.shown * 90 → (out : List ℕ)
        → out ≡ copied picture 0 (take (end - from) (drop from a)) → (r ≡ read_answer a k (length picture)) × (out ≡ read_picture a k picture)
    unfolding read_picture
    read_done z from end f m out o =
        let l : 0 + length (lines_at a k) ≤ length picture = omega (arith, h, lines_fit a k r is z) in
        (sym asked, o ∙ rw (asked, z, lines_are a k r is z from end f m) (copied_fits picture 0 (lines_at a k) l ∙ put_start picture (lines_at a k)))
