-- A long input may be cut after any whole group: its text is the text of the parts, one after the other.
use Prim.Native.Nat.{ℕ, zero, suc, ◌+◌, ◌*◌, ◌/◌, ◌%◌, ◌≤◌}
use mathlib.Core.Path.{◌≡◌, refl}
use mathlib.Core.List.{List, ◌++◌, append_assoc, append-nil}
use native.Mathlib.Omega.{arith}
use native.Mathlib.Nat.{add-suc, add-zero}
use lib.ListN.{length, drop, length-append, length-drop}
use lib.Seq.{take-append-le, drop-append-le, drop-append-add}
use Rattle.reach.specs.Text.{line_at, text_of, groups, reach_text}

module _ (a b : List ℕ) where
  line_first : (k : ℕ) → 9 * k + 9 ≤ length a → line_at (a ++ b) k ≡ line_at a k
  unfolding line_at
  line_first k h =
      let e : 9 ≤ length (drop (9 * k) a) = simp length-drop (omega arith) in
      let f : 9 * k ≤ length a = omega arith in
      rw (drop-append-le (9 * k) a b f, take-append-le 9 (drop (9 * k) a) b e)

  text_first : (k : ℕ) → 9 * k ≤ length a → text_of (a ++ b) k ≡ text_of a k
  unfolding text_of
  text_first zero h = refl
  text_first (suc k) h = rw (text_first k (omega arith), line_first k (omega arith))

  line_rest : (m j : ℕ) → length a ≡ 9 * m → line_at (a ++ b) (m + j) ≡ line_at b j
  unfolding line_at
  line_rest m j h = let e : 9 * (m + j) ≡ length a + 9 * j = omega arith in rw (e, drop-append-add a b (9 * j))

  text_rest : (m j : ℕ) → length a ≡ 9 * m → text_of (a ++ b) (m + j) ≡ text_of a m ++ text_of b j
  unfolding text_of
  text_rest m zero h = rw (add-zero, append-nil) (text_first m (omega arith))
  text_rest m (suc j) h = rw (add-suc, text_rest m j h, line_rest m j h, append_assoc)

  pub chunked : length a % 9 ≡ 0 → reach_text (a ++ b) ≡ reach_text a ++ reach_text b
  unfolding reach_text groups
  chunked h =
      let m : ℕ = length a / 9 in
      let e : (length (a ++ b) + 8) / 9 ≡ length a / 9 + (length b + 8) / 9 = rw length-append (omega arith) in
      let f : (length a + 8) / 9 ≡ length a / 9 = omega arith in
      rw (e, f) (text_rest (length a / 9) ((length b + 8) / 9) (omega arith))
