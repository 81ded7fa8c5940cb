-- A list that a rule makes: its length and its entries. For a table in the code, antt computes the rule at every place and compares
-- the whole list with the table once; `entry` then gives the rule at one place.
-- Assumes nothing.
use mathlib.Core.Path.{◌≡◌, refl, ap}
use Prim.Native.Nat.{ℕ, zero, suc, ◌+◌, ◌<◌}
use native.Mathlib.Nat.{add-zero, zero-add, add-suc, suc-add, le_of_suc-le-suc, not-suc-le-zero}
use lib.ListN.{length, get_or}
use Rattle.panel.specs.Widen.{tabulate}

pub length_tabulate : (f : ℕ → ℕ) (from n : ℕ) → length (tabulate f from n) ≡ n
unfolding tabulate
length_tabulate f from zero = refl
length_tabulate f from (suc n) = ap suc (length_tabulate f (suc from) n)

pub get_d_tabulate : (f : ℕ → ℕ) (from n i : ℕ) → i < n → get_or (tabulate f from n) i 0 ≡ f (from + i)
unfolding tabulate
get_d_tabulate f from zero i h = absurd (not-suc-le-zero h)
get_d_tabulate f from (suc n) zero h = rw add-zero
get_d_tabulate f from (suc n) (suc i) h =
    rw (add-suc, ← suc-add) (get_d_tabulate f (suc from) n i (le_of_suc-le-suc h))

pub entry : (f : ℕ → ℕ) (n i : ℕ) → i < n → get_or (tabulate f 0 n) i 0 ≡ f i
entry f n i h = rw zero-add at (get_d_tabulate f 0 n i h)
