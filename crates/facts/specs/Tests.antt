-- A test of numbers, ℕ → Bool, asked of the n numbers from `from` on.
use Rattle.std.specs.Prelude.{ℕ, zero, suc, Bool, true, false, cond, ◌&&◌, ◌||◌, Option, None, Some}

-- whether it holds of all of them
unfoldable pub every : (ℕ → Bool) → ℕ → ℕ → Bool
every p from zero = true
every p from (suc n) = p from && every p (suc from) n

-- whether it holds of any of them
unfoldable pub any : (ℕ → Bool) → ℕ → ℕ → Bool
any p from zero = false
any p from (suc n) = p from || any p (suc from) n

-- the first of them that it holds of, if there is one
unfoldable pub first_of : (ℕ → Bool) → ℕ → ℕ → Option ℕ
first_of p from zero = None
first_of p from (suc n) = cond (p from) (Some from) (first_of p (suc from) n)
