-- The parts of an answer about an archive fit their places in a reply, and a refusal is packed as its number.
-- Assumes nothing.
use Prim.Native.Nat.{ℕ, ◌+◌, ◌*◌, ◌≤◌}
use native.Mathlib.Omega.{arith}
use mathlib.Core.Path.{◌≡◌, refl, sym, ap, subst, ◌∙◌}
use mathlib.Core.Bool.{Bool, true, false, cond, ◌&&◌}
use mathlib.Core.List.{List}
use borrow.Author.Tests.{eqb-true, eqb-false, eq-eqb, ne_eqb}
use lib.Dec.{eqb, ltb, leb}
use Rattle.std.specs.Prelude.{Option, None, Some, Result, Ok, Err, IfOk, MatchResult}
use Rattle.refusal.specs.declared.Refusal.{Refusal}
use Rattle.refusal.specs.Numbers.{number, named, answered}
use Rattle.archive.specs.declared.numbers.Entry.{Entry}
use Rattle.facts.specs.Tests.{first_of}
use Rattle.archive.specs.Sound.{count_of, has_pair, entry_of, bench_at, sound, frame_at, is_new}
use Rattle.archive.specs.Answers.{EntryRead, Counted, Found, good_fields, no_entry, entry_refusal, entry_answer, count_answer, find_answer}
use Rattle.archive.proofs.Asking.{refusal_is, entry_given, found_at}
use Rattle.archive.proofs.Read.{sound_is}
use Rattle.archive.proofs.Written.{bench_most}
use Rattle.archive_read.specs.Reading.{read_answer}
use Rattle.archive_add.specs.Adding.{length_or, next_length, start_refusal, room_for, add_refusal}
use Rattle.archive_add.proofs.Adding.{add_taken}
use Rattle.c_archive.specs.Replies.{reply, written_reply, shown_code, entry_reply, index_reply, find_reply}

-- refusal numbers that are those of refusals, and 0
abbrev Known : ℕ → Type 0
Known n = (n ≡ 0 → ⊥) → number (named n) ≡ n

known_start : (room : ℕ) → Known (start_refusal room)
unfolding start_refusal number named
known_start room = go (leb 20 room)
  where
    go : (x : Bool) → Known (cond x 0 12)
    go true ne = absurd (ne refl)
    go false ne = refl

known_add : (a : List ℕ) (bench number shown size room : ℕ) → Known (add_refusal a bench number shown size room)
unfolding add_refusal number named
known_add a bench number shown size room =
    go (eqb size 23040) (sound a) (good_fields bench shown && is_new (frame_at a) bench number (count_of a)) (room_for (count_of a) room)
  where
    go : (x y z w : Bool) → Known (cond x (cond y (cond z (cond w 0 12) 11) 10) 2)
    go true true true true ne = absurd (ne refl)
    go true true true false ne = refl
    go true true false w ne = refl
    go true false z w ne = refl
    go false y z w ne = refl

known_entry : (a : List ℕ) (k : ℕ) → Known (entry_answer a k).refusal
unfolding entry_refusal number named
known_entry a k = rw refusal_is (go (sound a) (ltb k (count_of a)))
  where
    go : (x y : Bool) → Known (cond x (cond y 0 11) 10)
    go true true ne = absurd (ne refl)
    go true false ne = refl
    go false y ne = refl

-- ---- a length

pub written_is : (size n : ℕ) (w : Result ℕ Refusal) (x : ℕ) → Known n → w ≡ answered n size → MatchResult w (λ m. x ≡ reply m 0 0) (λ r. x ≡ reply 0 (number r) 0)
    → x ≡ written_reply (length_or size n)
unfolding written_reply length_or answered
written_is size n w x k e h = go (eqb n 0) refl (subst (λ (v : Result ℕ Refusal). MatchResult v (λ m. x ≡ reply m 0 0) (λ r. x ≡ reply 0 (number r) 0)) e h)
  where
    go : (b : Bool) → eqb n 0 ≡ b → MatchResult (cond b (Ok size) (Err (named n))) (λ m. x ≡ reply m 0 0) (λ r. x ≡ reply 0 (number r) 0) → x ≡ reply (cond b size 0) n 0
    go true t g = let z : n ≡ 0 = eqb-true n 0 t in rw z g
    go false t g = let ne : (n ≡ 0 → ⊥) = eqb-false n 0 t in g ∙ rw (k ne)

-- a number that is packed with the refusal number beside it
module _ (w : Result ℕ Refusal) (p : ℕ × ℕ) (h : MatchResult w (λ n. p ≡ (n, 0)) (λ r. p ≡ (0, number r))) where
  pub number_small : IfOk w (λ n. n ≤ 4294967295) → p.0 ≤ 4294967295
  number_small s = go w h s
    where
      go : (v : Result ℕ Refusal) → MatchResult v (λ n. p ≡ (n, 0)) (λ r. p ≡ (0, number r)) → IfOk v (λ n. n ≤ 4294967295) → p.0 ≤ 4294967295
      go (Ok n) e s = rw e s
      go (Err r) e s = rw e (omega arith)

  pub number_packed : (x : ℕ) → x ≡ reply p.0 p.1 0 → MatchResult w (λ n. x ≡ reply n 0 0) (λ r. x ≡ reply 0 (number r) 0)
  number_packed x f = go w h
    where
      go : (v : Result ℕ Refusal) → MatchResult v (λ n. p ≡ (n, 0)) (λ r. p ≡ (0, number r)) → MatchResult v (λ n. x ≡ reply n 0 0) (λ r. x ≡ reply 0 (number r) 0)
      go (Ok n) e = f ∙ rw e
      go (Err r) e = f ∙ rw e

pub start_is : (room : ℕ) (w : Result ℕ Refusal) (x : ℕ) → w ≡ answered (start_refusal room) 20 → MatchResult w (λ m. x ≡ reply m 0 0) (λ r. x ≡ reply 0 (number r) 0)
    → x ≡ written_reply (length_or 20 (start_refusal room))
start_is room w x e h = written_is 20 (start_refusal room) w x (known_start room) e h

pub add_is : (a : List ℕ) (bench serial shown size room : ℕ) (w : Result ℕ Refusal) (x : ℕ) → w ≡ answered (add_refusal a bench serial shown size room) (next_length (count_of a))
    → MatchResult w (λ m. x ≡ reply m 0 0) (λ r. x ≡ reply 0 (number r) 0) → x ≡ written_reply (length_or (next_length (count_of a)) (add_refusal a bench serial shown size room))
add_is a bench serial shown size room w x e h =
    written_is (next_length (count_of a)) (add_refusal a bench serial shown size room) w x (known_add a bench serial shown size room) e h

-- an accepted length fits
if_ok : {A : Type 0} (P : A → Type 0) (n : ℕ) (x : A) (w : Result A Refusal) → w ≡ answered n x → (n ≡ 0 → P x) → IfOk w P
unfolding answered
if_ok {A} P n x w e h = subst (λ (v : Result A Refusal). IfOk v P) (sym e) (go (eqb n 0) refl)
  where
    go : (b : Bool) → eqb n 0 ≡ b → IfOk (cond b (Ok x) (Err (named n))) P
    go true t = h (eqb-true n 0 t)
    go false t = tt

pub start_small : (room : ℕ) (w : Result ℕ Refusal) → w ≡ answered (start_refusal room) 20 → IfOk w (λ m. m ≤ 4294967295)
start_small room w e = if_ok (λ m. m ≤ 4294967295) (start_refusal room) 20 w e (λ z. omega arith)

pub add_small : (a : List ℕ) (bench serial shown size room : ℕ) (w : Result ℕ Refusal) → w ≡ answered (add_refusal a bench serial shown size room) (next_length (count_of a))
    → IfOk w (λ m. m ≤ 4294967295)
unfolding next_length
add_small a bench serial shown size room w e =
    if_ok (λ m. m ≤ 4294967295) (add_refusal a bench serial shown size room) (next_length (count_of a)) w e
    (λ z. let t = add_taken a bench serial shown size room z in omega (arith, t.few))

-- ---- an entry

pub record Told (r : EntryRead) : Type 0 where
  pub known : Known r.refusal
  pub empty : (r.refusal ≡ 0 → ⊥) → r.entry ≡ no_entry
  pub small : r.refusal ≡ 0 → r.entry.bench ≤ 65535

abbrev Small : EntryRead → Type 0
Small r = r.entry.bench ≤ 65535

given_small : (a : List ℕ) (k : ℕ) → entry_refusal a k ≡ 0 → Small (record { entry = entry_of a k; refusal = 0 })
unfolding entry_of
given_small a k z =
    let g = entry_given a k (refusal_is a k ∙ z) in
    (bench_most (bench_at a k) ((sound_is a g.is_sound).each k g.below).bench).1

pub entry_small : (a : List ℕ) (k : ℕ) → Small (entry_answer a k)
unfolding entry_answer
entry_small a k = go (eqb (entry_refusal a k) 0) refl
  where
    go : (x : Bool) → eqb (entry_refusal a k) 0 ≡ x
        → Small (cond {A = EntryRead} x (record { entry = entry_of a k; refusal = 0 }) (record { entry = no_entry; refusal = entry_refusal a k }))
    go true e = given_small a k (eqb-true (entry_refusal a k) 0 e)
    go false e = omega arith

pub read_small : (a : List ℕ) (k size : ℕ) → Small (read_answer a k size)
unfolding read_answer
read_small a k size = go (eqb size 23040)
  where
    go : (x : Bool) → Small (cond {A = EntryRead} x (entry_answer a k) (record { entry = no_entry; refusal = 2 }))
    go true = entry_small a k
    go false = omega arith

entry_empty : (a : List ℕ) (k : ℕ) → ((entry_answer a k).refusal ≡ 0 → ⊥) → (entry_answer a k).entry ≡ no_entry
unfolding entry_answer
entry_empty a k = go (eqb (entry_refusal a k) 0) refl
  where
    go : (b : Bool) → eqb (entry_refusal a k) 0 ≡ b
        → ((cond {A = EntryRead} b (record { entry = entry_of a k; refusal = 0 }) (record { entry = no_entry; refusal = entry_refusal a k })).refusal ≡ 0 → ⊥)
        → (cond {A = EntryRead} b (record { entry = entry_of a k; refusal = 0 }) (record { entry = no_entry; refusal = entry_refusal a k })).entry ≡ no_entry
    go true t ne = absurd (ne refl)
    go false t ne = refl

entry_told : (a : List ℕ) (k : ℕ) → Told (entry_answer a k)
entry_told a k = record { known = known_entry a k; empty = entry_empty a k; small = λ z. entry_small a k }

read_told : (a : List ℕ) (k size : ℕ) → Told (read_answer a k size)
unfolding read_answer number named
read_told a k size = go (eqb size 23040)
  where
    go : (b : Bool) → Told (cond b (entry_answer a k) (record { entry = no_entry; refusal = 2 }))
    go true = entry_told a k
    go false = record { known = λ ne. refl; empty = λ ne. refl; small = λ z. omega arith }

module _ (r : EntryRead) (t : Told r) (w : Result Entry Refusal) (e : w ≡ answered r.refusal r.entry) where
  fits : IfOk w (λ (v : Entry). v.bench ≤ 65535)
  fits = if_ok (λ (v : Entry). v.bench ≤ 65535) r.refusal r.entry w e t.small

  packed : (x : ℕ) → MatchResult w (λ (v : Entry). x ≡ reply v.number 0 (v.bench + 65536 * shown_code v.shown)) (λ f. x ≡ reply 0 (number f) 0) → x ≡ entry_reply r
  unfolding entry_reply answered shown_code
  packed x h =
      go (eqb r.refusal 0) refl
      (subst (λ (v : Result Entry Refusal). MatchResult v (λ (v : Entry). x ≡ reply v.number 0 (v.bench + 65536 * shown_code v.shown)) (λ f. x ≡ reply 0 (number f) 0)) e h)
    where
      go : (b : Bool) → eqb r.refusal 0 ≡ b
          → MatchResult (cond b (Ok r.entry) (Err (named r.refusal))) (λ (v : Entry). x ≡ reply v.number 0 (v.bench + 65536 * shown_code v.shown)) (λ f. x ≡ reply 0 (number f) 0)
          → x ≡ reply r.entry.number r.refusal (r.entry.bench + 65536 * shown_code r.entry.shown)
      go true y g = rw (eqb-true r.refusal 0 y) g
      go false y g = let ne : (r.refusal ≡ 0 → ⊥) = eqb-false r.refusal 0 y in g ∙ rw (t.known ne, t.empty ne)

module _ (a : List ℕ) (k : ℕ) (w : Result Entry Refusal) (e : w ≡ answered (entry_answer a k).refusal (entry_answer a k).entry) where
  pub entry_fits : IfOk w (λ (v : Entry). v.bench ≤ 65535)
  entry_fits = fits (entry_answer a k) (entry_told a k) w e

  pub entry_is : (x : ℕ) → MatchResult w (λ (v : Entry). x ≡ reply v.number 0 (v.bench + 65536 * shown_code v.shown)) (λ f. x ≡ reply 0 (number f) 0) → x ≡ entry_reply (entry_answer a k)
  entry_is x h = packed (entry_answer a k) (entry_told a k) w e x h

module _ (a : List ℕ) (k size : ℕ) (w : Result Entry Refusal) (e : w ≡ answered (read_answer a k size).refusal (read_answer a k size).entry) where
  pub read_fits : IfOk w (λ (v : Entry). v.bench ≤ 65535)
  read_fits = fits (read_answer a k size) (read_told a k size) w e

  pub read_is : (x : ℕ) → MatchResult w (λ (v : Entry). x ≡ reply v.number 0 (v.bench + 65536 * shown_code v.shown)) (λ f. x ≡ reply 0 (number f) 0) → x ≡ entry_reply (read_answer a k size)
  read_is x h = packed (read_answer a k size) (read_told a k size) w e x h

-- ---- a count and an index, with the refusal number beside

pub count_parts : (a : List ℕ) (w : Result ℕ Refusal) (p : ℕ × ℕ) → w ≡ answered (count_answer a).refusal (count_answer a).count
    → MatchResult w (λ n. p ≡ (n, 0)) (λ r. p ≡ (0, number r)) → p ≡ ((count_answer a).count, (count_answer a).refusal)
unfolding count_answer answered number named
count_parts a w p e h = go (sound a) (subst (λ (v : Result ℕ Refusal). MatchResult v (λ n. p ≡ (n, 0)) (λ r. p ≡ (0, number r))) e h)
  where
    c : Bool → Counted
    c b = cond b (record { count = count_of a; refusal = 0 }) (record { count = 0; refusal = 10 })

    go : (b : Bool) → MatchResult (answered (c b).refusal (c b).count) (λ n. p ≡ (n, 0)) (λ r. p ≡ (0, number r)) → p ≡ ((c b).count, (c b).refusal)
    go true g = g
    go false g = g

pub find_parts : (a : List ℕ) (bench serial : ℕ) (w : Result (Option ℕ) Refusal) (p : Option ℕ × ℕ) → w ≡ answered (find_answer a bench serial).refusal (find_answer a bench serial).index
    → MatchResult w (λ (i : Option ℕ). p ≡ (i, 0)) (λ r. p ≡ (None, number r)) → p ≡ ((find_answer a bench serial).index, (find_answer a bench serial).refusal)
unfolding find_answer answered number named
find_parts a bench serial w p e h =
    go (sound a) (subst (λ (v : Result (Option ℕ) Refusal). MatchResult v (λ (i : Option ℕ). p ≡ (i, 0)) (λ r. p ≡ (None, number r))) e h)
  where
    f : Bool → Found
    f b = cond b (record { index = first_of (has_pair (frame_at a) bench serial) 0 (count_of a); refusal = 0 }) (record { index = None; refusal = 10 })

    go : (b : Bool) → MatchResult (answered (f b).refusal (f b).index) (λ (i : Option ℕ). p ≡ (i, 0)) (λ r. p ≡ (None, number r)) → p ≡ ((f b).index, (f b).refusal)
    go true g = g
    go false g = g

pub find_packed : (a : List ℕ) (bench serial : ℕ) (p : Option ℕ × ℕ) (x : ℕ) → p ≡ ((find_answer a bench serial).index, (find_answer a bench serial).refusal)
    → x ≡ index_reply p.0 p.1 → x ≡ find_reply (find_answer a bench serial)
unfolding find_reply
find_packed a bench serial p x e h = h ∙ rw e

pub index_small : (a : List ℕ) (bench number k : ℕ) (f : Found) → f ≡ find_answer a bench number → f.index ≡ Some k → k ≤ 1000
index_small a bench number k f is e =
    let g = found_at a bench number k (ap (λ (x : Found). x.index) (sym is) ∙ e) in
    omega (arith, g.below, (sound_is a g.is_sound).head.few)

-- the code of the shown lines
module _ (shown : ℕ) where
  pub code_256 : shown ≡ 256 → (2 ≡ shown_code shown) × (2 ≤ 2)
  unfolding shown_code
  code_256 h = (rw h, omega arith)

  pub code_200 : (shown ≡ 256 → ⊥) → shown ≡ 200 → (1 ≡ shown_code shown) × (1 ≤ 2)
  unfolding shown_code
  code_200 n h = (rw (ne_eqb shown 256 n, eq-eqb shown 200 h), omega arith)

  pub code_0 : (shown ≡ 256 → ⊥) → (shown ≡ 200 → ⊥) → (0 ≡ shown_code shown) × (0 ≤ 2)
  unfolding shown_code
  code_0 n m = (rw (ne_eqb shown 256 n, ne_eqb shown 200 m), omega arith)
