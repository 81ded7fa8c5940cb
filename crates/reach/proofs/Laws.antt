-- The text of the reach list: which line a group has, how long a line is, and the text put down line by line.
use Prim.Native.Nat.{ℕ, zero, suc, ◌+◌, ◌*◌, ◌/◌, ◌-◌, ◌≤◌, ◌<◌, min}
use mathlib.Core.Path.{◌≡◌, refl, sym, ap, ◌∙◌}
use mathlib.Core.List.{List, ◌++◌}
use mathlib.Core.Bool.{Bool, true, false, not, cond}
use native.Mathlib.Omega.{arith}
use native.Mathlib.Numerals.{add-one}
use borrow.Author.Tests.{not-true, not-false, lt-ltb, le-ltb, ltb-false, leb-true, leb-false}
use lib.Dec.{ltb, leb, lit≤}
use lib.ListN.{length, take, drop, length-append, length-take, length-drop}
use lib.Seq.{paste, length-take-le, take_all, drop-drop, take-append_seam, drop-append_seam}
use Rattle.facts.specs.Lists.{in_room}
use Rattle.facts.proofs.Rooms.{room_length, room_step}
use Rattle.paging.specs.Maps.{allowed}
use Rattle.std.specs.Prelude.{Result, Ok, Err, IfOk}
use Rattle.std.proofs.lemmas.List.{drop_all}
use Rattle.refusal.specs.declared.Refusal.{Refusal}
use Rattle.refusal.specs.declared.Refusal.TheVariants.{BadLength}
use Rattle.reach.specs.Text.{sizes_of, paging_of, address_of, reach_line, refusal_line, whole_line, group_line}
use Rattle.reach.specs.Text.{hex2, hex4, line_at, text_of, groups, reach_text, listed, listed_out}

module _ (g : List ℕ) (b : Bool) (e : b ≡ allowed (sizes_of g)) where
  pub whole_refused : not b ≡ true → refusal_line 6 ≡ whole_line g
  unfolding whole_line
  whole_refused h = rw (← e, not-true b h)

  pub whole_reached : not b ≡ false → reach_line (sizes_of g) (paging_of g) (address_of g) ≡ whole_line g
  unfolding whole_line
  whole_reached h = rw (← e, not-false b h)

module _ (input : List ℕ) (at : ℕ) where
  pub group_short : length input - at < 9 → refusal_line 2 ≡ group_line (take 9 (drop at input))
  unfolding group_line
  group_short h = rw (lt-ltb (length (take 9 (drop at input))) 9 (simp (length-take, length-drop) (omega arith)))

  pub group_whole : 9 ≤ length input - at → whole_line (take 9 (drop at input)) ≡ group_line (take 9 (drop at input))
  unfolding group_line
  group_whole h = rw (le-ltb (length (take 9 (drop at input))) 9 (simp (length-take, length-drop) (omega arith)))

-- a line has at most 20 bytes
reach_line_length : (g : List ℕ) → length (reach_line (sizes_of g) (paging_of g) (address_of g)) ≡ 20
unfolding reach_line hex2 hex4
reach_line_length g = refl

whole_line_length : (g : List ℕ) → length (whole_line g) ≤ 20
unfolding whole_line refusal_line
whole_line_length g = go (allowed (sizes_of g))
  where
    go : (b : Bool) → length (cond b (reach_line (sizes_of g) (paging_of g) (address_of g)) (refusal_line 6)) ≤ 20
    go true = omega (arith, reach_line_length g)
    go false = lit≤ tt

pub group_line_length : (g : List ℕ) → length (group_line g) ≤ 20
unfolding group_line refusal_line
group_line_length g = go (ltb (length g) 9)
  where
    go : (b : Bool) → length (cond b (refusal_line 2) (whole_line g)) ≤ 20
    go true = lit≤ tt
    go false = whole_line_length g

pub text_length : (input : List ℕ) (k : ℕ) → length (text_of input k) ≤ 20 * k
unfolding text_of line_at
text_length input zero = omega arith
text_length input (suc k) =
    simp length-append (omega (arith, text_length input k, group_line_length (take 9 (drop (9 * k) input))))

-- a piece of at most 9 bytes from the front, and what is left past it
cut : (x t : List ℕ) → length x ≡ min 9 (length (x ++ t)) → (x ≡ take 9 (x ++ t)) × (t ≡ drop 9 (x ++ t))
cut x t h = go (leb 9 (length (x ++ t))) refl
  where
    go : (b : Bool) → leb 9 (length (x ++ t)) ≡ b → (x ≡ take 9 (x ++ t)) × (t ≡ drop 9 (x ++ t))
    go true q =
        let z : length x ≡ 9 = omega (arith, leb-true 9 (length (x ++ t)) q) in
        let f : take (length x) (x ++ t) ≡ x = take-append_seam x t in
        let r : drop (length x) (x ++ t) ≡ t = drop-append_seam x t in
        (sym (rw z at f), sym (rw z at r))
    go false q =
        let l : length (x ++ t) ≤ length x = omega (arith, leb-false 9 (length (x ++ t)) q) in
        let m : length (x ++ t) ≤ 9 = omega (arith, leb-false 9 (length (x ++ t)) q) in (
          sym (take-append_seam x t) ∙ take_all (length x) (x ++ t) l ∙ sym (take_all 9 (x ++ t) m),
          sym (drop-append_seam x t) ∙ drop_all (length x) (x ++ t) l ∙ sym (drop_all 9 (x ++ t) m),
        )

-- the k-th piece of the input is its k-th group
module _ (input s x t : List ℕ) (k : ℕ) (from : s ≡ drop (9 * k) input) (parts : s ≡ x ++ t) (size : length x ≡ min 9 (length s)) where
  pub piece_is : group_line x ≡ line_at input k
  unfolding line_at
  piece_is = let g = cut x t (rw parts at size) in ap group_line (rw (← parts, from) at g.0)

  pub rest_is : t ≡ drop (9 * (k + 1)) input
  rest_is =
      let g = cut x t (rw parts at size) in
      let e : 9 * k + 9 ≡ 9 * (k + 1) = omega arith in
      (rw (← parts, from) at g.1) ∙ drop-drop 9 (9 * k) input ∙ ap (λ (n : ℕ). drop n input) e

-- a group is left where a byte is
pub one_more : (input s : List ℕ) (k : ℕ) → s ≡ drop (9 * k) input → 0 < length s → k + 1 ≤ groups (length input)
unfolding groups
one_more input s k from h = let e : length s ≡ length input - 9 * k = rw from (length-drop (9 * k) input) in omega arith

-- the copy of a line's bytes puts the line down
module _ (d bytes line : List ℕ) (to used : ℕ) (text : take used bytes ≡ line) where
  pub used_length : used ≤ length bytes → to + used ≡ to + length line
  used_length h = ap (◌+◌ to) (sym (length-take-le used bytes h) ∙ ap length text)

  pub pasted : paste d to bytes used ≡ take to d ++ line ++ drop (to + used) d
  pasted = rw text

-- one more line put down after the first k
module _ (input start out : List ℕ) (k to : ℕ) (at : to ≡ length (text_of input k)) (so_far : out ≡ in_room (text_of input k) start) where
  pub room : k < groups (length input) → 20 * groups (length input) ≤ length start → to + 20 ≤ length out
  room h fits =
      omega (arith, at, text_length input k, ap length so_far, room_length (text_of input k) start (omega (arith, text_length input k)))

  pub next_length_lem : {r : ℕ} → r ≡ to + length (line_at input k) → r ≡ length (text_of input (k + 1))
  unfolding text_of
  next_length_lem e = rw add-one (e ∙ ap (λ (n : ℕ). n + length (line_at input k)) at ∙ sym (length-append (text_of input k) (line_at input k)))

  pub next_out : {r : ℕ} {after : List ℕ} → r ≡ to + length (line_at input k) → after ≡ take to out ++ line_at input k ++ drop r out
      → after ≡ in_room (text_of input (k + 1)) start
  unfolding text_of
  next_out e f = rw (f, e, at, so_far, add-one) (room_step (text_of input k) (line_at input k) start)

-- the answer: refused, or accepted
module _ (input start : List ℕ) where
  pub refused : length start / 20 < groups (length input) → (listed input (length start) ≡ Err BadLength) × (listed_out input start ≡ start)
  unfolding listed listed_out
  refused h = let t : ltb (length start) (20 * groups (length input)) ≡ true = lt-ltb (length start) (20 * groups (length input)) (omega arith) in (rw t, rw t)

  pub accepted : groups (length input) ≤ length start / 20 → (listed input (length start) ≡ Ok (length (reach_text input))) × (listed_out input start ≡ in_room (reach_text input) start)
  unfolding listed listed_out
  accepted h = let t : ltb (length start) (20 * groups (length input)) ≡ false = le-ltb (length start) (20 * groups (length input)) (omega arith) in (rw t, rw t)

-- the text lies in the room that was lent
pub text_within : (input : List ℕ) (room : ℕ) → groups (length input) ≤ room / 20 → length (reach_text input) ≤ room
unfolding reach_text
text_within input room h = omega (arith, text_length input (groups (length input)))

-- the answered length lies in it
pub listed_within : (input : List ℕ) (room : ℕ) → IfOk (listed input room) (λ n. n ≤ room)
unfolding listed reach_text
listed_within input room = go (ltb room (20 * groups (length input))) refl
  where
    go : (b : Bool) → ltb room (20 * groups (length input)) ≡ b
        → IfOk (cond {A = Result ℕ Refusal} b (Err BadLength) (Ok (length (text_of input (groups (length input)))))) (λ n. n ≤ room)
    go true e = tt
    go false e = omega (arith, ltb-false room (20 * groups (length input)) e, text_length input (groups (length input)))
