-- What starting an archive and adding a frame answer and leave, rung by rung.
-- Assumes nothing.
use Prim.Native.Nat.{ℕ, ◌+◌, ◌-◌, ◌*◌, ◌/◌, ◌≤◌, ◌<◌}
use native.Mathlib.Omega.{arith}
use mathlib.Core.Path.{◌≡◌, refl, sym, ◌∙◌}
use mathlib.Core.Bool.{Bool, true, false, not, cond, ◌&&◌}
use mathlib.Core.List.{List, [], ◌∷◌, ◌++◌, append-nil}
use borrow.Author.Tests.{eqb-true, eq-eqb, ne_eqb, ltb-true, leb-true, le-leb, lt-leb, not-true, not-false}
use lib.Dec.{eqb, ltb, leb}
use lib.ListN.{length}
use Rattle.std.specs.Prelude.{Option, None, Some, is_none, is_some, Result, Ok}
use Rattle.refusal.specs.declared.Refusal.{Refusal}
use Rattle.refusal.specs.Numbers.{answered}
use Rattle.facts.specs.Lists.{in_room}
use Rattle.facts.proofs.Bools.{both}
use Rattle.byte_rows.specs.Rows.{rows}
use Rattle.archive.specs.Format.{header, written, archive_of}
use Rattle.archive.specs.Sound.{count_of, sound, frames_of, good_bench, good_shown, is_new, frame_at}
use Rattle.archive.specs.Answers.{Found, good_fields, find_answer}
use Rattle.archive.proofs.Asking.{find_given, find_refused}
use Rattle.archive.proofs.Pairs.{found_there, found_none}
use Rattle.archive.proofs.Read.{SoundIs, sound_is}
use Rattle.archive.proofs.Written.{shown_most}
use Rattle.archive_add.specs.Adding.{length_or, start_refusal, start_room, frame_of, next_length, room_for, add_refusal, add_room}

-- the number of frames of a sound archive is told by its length
pub count_by_length : (a : List ℕ) → SoundIs a → (length a - 20) / 23056 ≡ count_of a
count_by_length a s = omega (arith, s.head.size)

-- the archive of no frames
pub empty_is : archive_of [] ≡ header 0
unfolding archive_of written rows
empty_is = simp append-nil

module _ (room : List ℕ) where
  pub start_refused : length room < 20 → (record { length = 0; refusal = 12 } ≡ length_or 20 (start_refusal (length room))) × (room ≡ start_room room)
  unfolding start_refusal start_room length_or
  start_refused h = rw (lt-leb 20 (length room) h) (refl, refl)

  pub start_done : 20 ≤ length room → (out : List ℕ) → out ≡ in_room (header 0) room
      → (record { length = 20; refusal = 0 } ≡ length_or 20 (start_refusal (length room))) × (out ≡ start_room room)
  unfolding start_refusal start_room length_or
  start_done h out o = rw (le-leb 20 (length room) h, empty_is) (refl, o)

-- a search that found none
pub none_told : (r : Option ℕ) (b : Bool) → is_some r ≡ not b → b ≡ is_none r
none_told None true h = refl
none_told None false h = h
none_told (Some k) true h = h
none_told (Some k) false h = refl

-- ---- the refusal of an add

module _ (a : List ℕ) (bench number shown size room : ℕ) where
  pub add_size : (size ≡ 23040 → ⊥) → 2 ≡ add_refusal a bench number shown size room
  unfolding add_refusal
  add_size h = rw (ne_eqb size 23040 h)

  module _ (h : size ≡ 23040) (f : Found) (is : f ≡ find_answer a bench number) where
    pub add_unsound : (f.refusal ≡ 0 → ⊥) → 10 ≡ add_refusal a bench number shown size room
    unfolding add_refusal
    add_unsound n = rw (eq-eqb size 23040 h, find_refused a bench number f is n)

    module _ (z : f.refusal ≡ 0) (g : Bool) (fields : g ≡ good_fields bench shown) where
      pub add_fields : not g ≡ true → 11 ≡ add_refusal a bench number shown size room
      unfolding add_refusal
      add_fields t = rw (eq-eqb size 23040 h, (find_given a bench number f is z).0, ← fields, not-true g t)

      pub add_there : not g ≡ false → (k : ℕ) → f.index ≡ Some k → 11 ≡ add_refusal a bench number shown size room
      unfolding add_refusal
      add_there t k e =
          let s = find_given a bench number f is z in
          rw (eq-eqb size 23040 h, s.0, ← fields, not-false g t, ← found_there (frame_at a) bench number (count_of a) f.index s.1 k e)

      module _ (t : not g ≡ false) (e : f.index ≡ None) (n : ℕ) (at : n ≡ (length a - 20) / 23056) (r : Bool) (fits : r ≡ room_for n room) where
        by_room : add_refusal a bench number shown size room ≡ cond r 0 12
        unfolding add_refusal
        by_room =
            let s = find_given a bench number f is z in
            rw (eq-eqb size 23040 h, s.0, ← fields, not-false g t, ← found_none (frame_at a) bench number (count_of a) f.index s.1 e, fits, at, count_by_length a (sound_is a s.0))

        pub add_fits : r ≡ true → 0 ≡ add_refusal a bench number shown size room
        add_fits y = sym (by_room ∙ rw y)

        pub add_full : r ≡ false → 12 ≡ add_refusal a bench number shown size room
        add_full y = sym (by_room ∙ rw y)

-- ---- an add that is taken

pub record AddTaken (a : List ℕ) (bench number shown size room : ℕ) : Type 0 where
  pub whole : size ≡ 23040
  pub is_sound : sound a ≡ true
  pub length : length a ≡ 20 + 23056 * count_of a
  pub good_bench_lem : good_bench bench ≡ true
  pub good_shown_lem : good_shown shown ≡ true
  pub new : is_new (frame_at a) bench number (count_of a) ≡ true
  pub few : count_of a < 1000
  pub fits : 20 + 23056 * (count_of a + 1) ≤ room

module _ (a : List ℕ) (bench number shown size room : ℕ) where
  taken_of : size ≡ 23040 → sound a ≡ true → (good_fields bench shown && is_new (frame_at a) bench number (count_of a)) ≡ true → room_for (count_of a) room ≡ true
      → AddTaken a bench number shown size room
  unfolding good_fields room_for next_length
  taken_of w s f r =
      let p = both (good_fields bench shown) (is_new (frame_at a) bench number (count_of a)) f in
      let q = both (good_bench bench) (good_shown shown) p.0 in
      let o = both (ltb (count_of a) 1000) (leb (20 + 23056 * (count_of a + 1)) room) r in
      record {
        whole = w;
        is_sound = s;
        length = (sound_is a s).head.size;
        good_bench_lem = q.0;
        good_shown_lem = q.1;
        new = p.1;
        few = ltb-true (count_of a) 1000 o.0;
        fits = leb-true (20 + 23056 * (count_of a + 1)) room o.1;
      }

  pub add_taken : add_refusal a bench number shown size room ≡ 0 → AddTaken a bench number shown size room
  unfolding add_refusal
  add_taken =
      go (eqb size 23040) refl (sound a) refl (good_fields bench shown && is_new (frame_at a) bench number (count_of a)) refl (room_for (count_of a) room) refl
    where
      go : (x : Bool) → eqb size 23040 ≡ x → (y : Bool) → sound a ≡ y → (w : Bool) → (good_fields bench shown && is_new (frame_at a) bench number (count_of a)) ≡ w
          → (v : Bool) → room_for (count_of a) room ≡ v → ◌≡◌ {A = ℕ} (cond x (cond y (cond w (cond v 0 12) 11) 10) 2) 0 → AddTaken a bench number shown size room
      go true p true q true s true u t = taken_of (eqb-true size 23040 p) q s u
      go true p true q true s false u t = absurd (omega arith)
      go true p true q false s v u t = absurd (omega arith)
      go true p false q w s v u t = absurd (omega arith)
      go false p y q w s v u t = absurd (omega arith)

pub add_known : (a : List ℕ) (bench number shown size room r : ℕ) → r ≡ add_refusal a bench number shown size room → r ≡ 0 → AddTaken a bench number shown size room
add_known a bench number shown size room r e z = add_taken a bench number shown size room (sym e ∙ z)

-- what putting the next archive down asks
pub next_allowed : (a : List ℕ) (bench number shown size room n : ℕ) → AddTaken a bench number shown size room → n ≡ (length a - 20) / 23056
    → ((sound a ≡ true) × (n ≡ count_of a) × (length a ≡ 20 + 23056 * n) × (n < 1000) × (20 + 23056 * (n + 1) ≤ room)) × ((shown ≤ 256) × (size ≡ 23040))
next_allowed a bench number shown size room n t at =
    let e : n ≡ count_of a = at ∙ count_by_length a (sound_is a t.is_sound) in
    rw e ((t.is_sound, refl, t.length, t.few, t.fits), (shown_most shown t.good_shown_lem, t.whole))

pub add_length : (a b : List ℕ) (n bench number shown size room : ℕ) → n ≡ count_of b → b ≡ a → add_refusal a bench number shown size room ≡ 0
    → ◌≡◌ {A = Result ℕ Refusal} (Ok (20 + 23056 * (n + 1))) (answered (add_refusal a bench number shown size room) (next_length (count_of a)))
unfolding answered next_length
add_length a b n bench number shown size room at same z = rw (z, at, same)

-- ---- the answer

module _ (a : List ℕ) (bench number shown : ℕ) (picture room : List ℕ) (r : ℕ) (e : r ≡ add_refusal a bench number shown (length picture) (length room)) where
  pub add_refused : (r ≡ 0 → ⊥)
      → (record { length = 0; refusal = r } ≡ length_or (next_length (count_of a)) (add_refusal a bench number shown (length picture) (length room)))
      × (room ≡ add_room a bench number shown picture room)
  unfolding length_or add_room
  add_refused h = rw (← e, ne_eqb r 0 h) (refl, refl)

  pub add_done : r ≡ 0 → (n : ℕ) → n ≡ (length a - 20) / 23056 → (out : List ℕ)
      → out ≡ in_room (archive_of (frames_of a ++ (frame_of bench number shown picture ∷ []))) room
      → (record { length = 20 + 23056 * (n + 1); refusal = 0 } ≡ length_or (next_length (count_of a)) (add_refusal a bench number shown (length picture) (length room)))
      × (out ≡ add_room a bench number shown picture room)
  unfolding length_or add_room next_length
  add_done z n at out o = rw (← e, z, at, count_by_length a (sound_is a (add_known a bench number shown (length picture) (length room) r e z).is_sound)) (refl, o)
