-- Sets of scan lines (document 01: the notes), and what is asked of them. A property of line numbers is a test on numbers, ℕ → Bool.
use Rattle.std.specs.Prelude.{ℕ, zero, suc, ◌+◌, ◌*◌, ◌/◌, ◌%◌, ◌^◌, Bool, cond, not, ◌||◌, [], ◌∷◌, eqb, ltb, get_or}
use mir.Val.{bool_byte}
use Rattle.facts.specs.Tests.{every}
use Rattle.lineset.specs.declared.LineSet.{LineSet}

-- of the n numbers from `from` on, p as a binary number, the first number's digit lowest
unfoldable pub packed : (ℕ → Bool) → ℕ → ℕ → ℕ
packed p from zero = 0
packed p from (suc n) = packed p (suc from) n * 2 + bool_byte (p from)

-- the set of the lines 0 to 255 that p holds of
unfoldable pub set_of : (ℕ → Bool) → LineSet
set_of p = record { words = packed p 0 64 ∷ packed p 64 64 ∷ packed p 128 64 ∷ packed p 192 64 ∷ [] }

-- bit L % 64 of word L / 64
unfoldable pub member : LineSet → ℕ → Bool
member s L = eqb (get_or s.words (L / 64) 0 / 2 ^ (L % 64) % 2) 1

-- of the n numbers from `from` on, how many p holds of (the redraw count)
unfoldable pub count_of : (ℕ → Bool) → ℕ → ℕ → ℕ
count_of p from zero = 0
count_of p from (suc n) = bool_byte (p from) + count_of p (suc from) n

-- every line of s is in t
unfoldable pub inside : LineSet → LineSet → Bool
inside s t = every (λ (L : ℕ). not (member s L) || member t L) 0 256

-- "Shown lines: 0 to 255 on 50 Hz, 0 to 199 on 60 Hz"; no other rate shows any (house)
unfoldable pub shown_count : ℕ → ℕ
shown_count rate = cond (eqb rate 50) 256 (cond (eqb rate 60) 200 0)

unfoldable pub is_shown : ℕ → ℕ → Bool
is_shown rate L = ltb L (shown_count rate)

unfoldable pub shown_set : ℕ → LineSet
shown_set rate = set_of (is_shown rate)
