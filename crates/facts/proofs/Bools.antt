-- Laws of Bools: the parts of a test that holds or fails, and a Bool as a number.
-- Assumes nothing.
use Prim.Native.Nat.{ℕ, ◌*◌, ◌≤◌, ◌<◌}
use native.Mathlib.Omega.{arith}
use mathlib.Core.Path.{◌≡◌, refl, sym}
use mathlib.Core.Bool.{Bool, true, false, cond, not, ◌&&◌, ◌||◌, true≢false, and-false}
use mathlib.Core.Logic.{◌⊎◌, inl, inr}
use mir.Val.{bool_byte}

-- both parts of a true `and`
pub both : (a b : Bool) → (a && b) ≡ true → (a ≡ true) × (b ≡ true)
both true b e = (refl, e)
both false b e = absurd (true≢false (sym e))

pub both_true : (a b : Bool) → a ≡ true → b ≡ true → (a && b) ≡ true
both_true a b e f = rw (e, f)

-- tests that hold together are equal
pub hold_alike : (a b : Bool) → (a ≡ true → b ≡ true) → (b ≡ true → a ≡ true) → a ≡ b
hold_alike true b f g = sym (f refl)
hold_alike false true f g = g refl
hold_alike false false f g = refl

-- one part of a true `or`
pub either : (a b : Bool) → (a || b) ≡ true → (a ≡ true) ⊎ (b ≡ true)
either true b h = inl refl
either false b h = inr h

-- the parts of a false `or`
pub or_first : (a b : Bool) → (a || b) ≡ false → a ≡ false
or_first true b h = h
or_first false b h = refl

pub or_second : (a b : Bool) → (a || b) ≡ false → b ≡ false
or_second true b h = let z : true ≡ false = h in cc
or_second false b h = h

-- a test that is asked only where another holds
pub under : (r x y : Bool) → (r ≡ true → x ≡ y) → (r && x) ≡ (r && y)
under true x y h = h refl
under false x y h = refl

-- a choice between two that both have a property has it
pub cond_kept : {A : Type 0} (P : A → Type 0) (t : Bool) {x y : A} → P x → P y → P (cond t x y)
cond_kept P true h l = h
cond_kept P false h l = l

-- a Bool as a byte is 0 or 1
pub bool_byte_lt : (b : Bool) → bool_byte b < 2
bool_byte_lt true = omega arith
bool_byte_lt false = omega arith

pub bool_byte_le : (b : Bool) → bool_byte b ≤ 1
bool_byte_le b = omega (arith, bool_byte_lt b)

pub weighed : (b : Bool) (n : ℕ) → bool_byte b * n ≡ cond b n 0
weighed true n = omega arith
weighed false n = omega arith

-- neither of two
pub not_or : (a b : Bool) → not (a || b) ≡ (not a && not b)
not_or true b = refl
not_or false b = refl

pub and_swap : (a b c d : Bool) → (a && b && (c && d)) ≡ (a && c && (b && d))
and_swap true true c d = refl
and_swap true false c d = rw and-false
and_swap false b c d = refl
