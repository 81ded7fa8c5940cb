-- What count, entry and find answer, rung by rung.
-- Assumes nothing.
use Prim.Native.Nat.{ℕ, ◌+◌, ◌*◌, ◌≤◌, ◌<◌}
use native.Mathlib.Omega.{arith}
use mathlib.Core.Path.{◌≡◌, refl, sym, ap, ◌∙◌}
use mathlib.Core.Bool.{Bool, true, false, cond, not}
use mathlib.Core.List.{List}
use borrow.Author.Tests.{eqb-true, ltb-true, lt-ltb, le-ltb, le-leb, lt-leb, not-true, not-false}
use lib.Dec.{eqb, ltb}
use lib.ListN.{length}
use Rattle.archive.specs.declared.numbers.Entry.{Entry}
use Rattle.std.specs.Prelude.{Option, Some, None}
use Rattle.facts.specs.Tests.{first_of}
use Rattle.facts.proofs.Searches as searches
use Rattle.archive.specs.Sound.{count_of, entry_of, frame_at, good_bench, good_shown, has_pair, sound}
use Rattle.archive.specs.Answers.{Found, EntryRead, no_entry, entry_at, good_fields, count_answer, entry_refusal, entry_answer, find_answer}
use Rattle.archive.proofs.Read.{SoundIs, sound_is}

module _ (bench shown : ℕ) (g : Bool) (is : g ≡ good_bench bench) where
  pub fields_fail : not g ≡ true → false ≡ good_fields bench shown
  unfolding good_fields
  fields_fail h = rw (← is, not-true g h)

  pub fields_by_shown : not g ≡ false → (r : Bool) → r ≡ good_shown shown → r ≡ good_fields bench shown
  unfolding good_fields
  fields_by_shown h r e = rw (← is, not-false g h) e

module _ (a : List ℕ) (k : ℕ) where
  pub there : 36 + 16 * k ≤ length a → (e : Entry) → e ≡ entry_of a k → e ≡ entry_at a k
  unfolding entry_at
  there h e is = rw (le-leb (36 + 16 * k) (length a) h) is

  pub entry_there : 36 + 16 * k ≤ length a → entry_at a k ≡ entry_of a k
  entry_there h = sym (there h (entry_of a k) refl)

  pub not_there : length a < 36 + 16 * k → no_entry ≡ entry_at a k
  unfolding entry_at
  not_there h = rw (lt-leb (36 + 16 * k) (length a) h)

module _ (a : List ℕ) (g : Bool) (is : g ≡ sound a) where
  pub known_sound : not g ≡ false → SoundIs a
  known_sound h = sound_is a (sym is ∙ not-false g h)

  pub count_unsound : not g ≡ true → record { count = 0; refusal = 10 } ≡ count_answer a
  unfolding count_answer
  count_unsound h = rw (← is, not-true g h)

  pub count_done : not g ≡ false → (n : ℕ) → n ≡ count_of a → record { count = n; refusal = 0 } ≡ count_answer a
  unfolding count_answer
  count_done h n e = rw (← is, not-false g h, e)

  pub entry_unsound : not g ≡ true → (k : ℕ) → record { entry = no_entry; refusal = 10 } ≡ entry_answer a k
  unfolding entry_answer entry_refusal
  entry_unsound h k = rw (← is, not-true g h)

  pub entry_past : not g ≡ false → (n k : ℕ) → n ≡ count_of a → n ≤ k → record { entry = no_entry; refusal = 11 } ≡ entry_answer a k
  unfolding entry_answer entry_refusal
  entry_past h n k at l = rw (← is, not-false g h, ← at, le-ltb k n l)

  pub entry_done : not g ≡ false → (n k : ℕ) → n ≡ count_of a → k < n → (e : Entry) → e ≡ entry_of a k → record { entry = e; refusal = 0 } ≡ entry_answer a k
  unfolding entry_answer entry_refusal
  entry_done h n k at l e en = rw (← is, not-false g h, ← at, lt-ltb k n l, en)

  pub find_unsound : not g ≡ true → (bench number : ℕ) → record { index = None; refusal = 10 } ≡ find_answer a bench number
  unfolding find_answer
  find_unsound h bench number = rw (← is, not-true g h)

  pub find_done : not g ≡ false → (n bench number : ℕ) → n ≡ count_of a → (i : Option ℕ) → i ≡ first_of (has_pair (frame_at a) bench number) 0 n
      → record { index = i; refusal = 0 } ≡ find_answer a bench number
  unfolding find_answer
  find_done h n bench number at i e = rw (← is, not-false g h, ← at, e)

-- an entry that is given
pub record EntryGiven (a : List ℕ) (k : ℕ) : Type 0 where
  pub is_sound : sound a ≡ true
  pub below : k < count_of a
  pub given : entry_answer a k ≡ record { entry = entry_of a k; refusal = 0 }

pub refusal_is : (a : List ℕ) (k : ℕ) → (entry_answer a k).refusal ≡ entry_refusal a k
unfolding entry_answer
refusal_is a k = go (eqb (entry_refusal a k) 0) refl
  where
    go : (x : Bool) → eqb (entry_refusal a k) 0 ≡ x
        → (cond {A = EntryRead} x (record { entry = entry_of a k; refusal = 0 }) (record { entry = no_entry; refusal = entry_refusal a k })).refusal ≡ entry_refusal a k
    go true e = sym (eqb-true (entry_refusal a k) 0 e)
    go false e = refl

pub entry_given : (a : List ℕ) (k : ℕ) → (entry_answer a k).refusal ≡ 0 → EntryGiven a k
unfolding entry_answer entry_refusal
entry_given a k z = go (sound a) refl (ltb k (count_of a)) refl (sym (refusal_is a k) ∙ z)
  where
    go : (x : Bool) → sound a ≡ x → (y : Bool) → ltb k (count_of a) ≡ y → ◌≡◌ {A = ℕ} (cond x (cond y 0 11) 10) 0 → EntryGiven a k
    go true p true q h = record { is_sound = p; below = ltb-true k (count_of a) q; given = rw (p, q) }
    go true p false q h = absurd (omega arith)
    go false p y q h = absurd (omega arith)

-- what a find that is answered tells, and one that is refused
module _ (a : List ℕ) (bench number : ℕ) (f : Found) (is : f ≡ find_answer a bench number) where
  by_soundness : (x : Bool) → sound a ≡ x
      → f ≡ cond {A = Found} x (record { index = first_of (has_pair (frame_at a) bench number) 0 (count_of a); refusal = 0 }) (record { index = None; refusal = 10 })
  unfolding find_answer
  by_soundness x e = is ∙ rw e

  pub find_given : f.refusal ≡ 0 → (sound a ≡ true) × (f.index ≡ first_of (has_pair (frame_at a) bench number) 0 (count_of a))
  find_given z = go (sound a) refl
    where
      go : (x : Bool) → sound a ≡ x → (sound a ≡ true) × (f.index ≡ first_of (has_pair (frame_at a) bench number) 0 (count_of a))
      go true e = (e, ap (λ (g : Found). g.index) (by_soundness true e))
      go false e = let t : f.refusal ≡ 10 = ap (λ (g : Found). g.refusal) (by_soundness false e) in absurd (omega arith)

  pub find_refused : (f.refusal ≡ 0 → ⊥) → sound a ≡ false
  find_refused n = go (sound a) refl
    where
      go : (x : Bool) → sound a ≡ x → x ≡ false
      go true e = absurd (n (ap (λ (g : Found). g.refusal) (by_soundness true e)))
      go false e = refl

-- "A bench and frame number pair stands once": what a find gives is an entry with that pair
pub record FoundAt (a : List ℕ) (bench number k : ℕ) : Type 0 where
  pub is_sound : sound a ≡ true
  pub below : k < count_of a
  pub pair : has_pair (frame_at a) bench number k ≡ true

pub found_at : (a : List ℕ) (bench number k : ℕ) → (find_answer a bench number).index ≡ Some k → FoundAt a bench number k
unfolding find_answer
found_at a bench number k = go (sound a) refl
  where
    go : (x : Bool) → sound a ≡ x
        → (cond {A = Found} x (record { index = first_of (has_pair (frame_at a) bench number) 0 (count_of a); refusal = 0 }) (record { index = None; refusal = 10 })).index ≡ Some k
        → FoundAt a bench number k
    go true s e =
        let h = searches.found_at (has_pair (frame_at a) bench number) 0 (count_of a) k e in
        record { is_sound = s; below = omega (arith, h.high); pair = h.holds }
    go false s e = let z : ◌≡◌ {A = ℕ} 0 1 = cc in absurd (omega arith)
