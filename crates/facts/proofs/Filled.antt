-- A list that a loop fills from the front by a rule of the index.
-- Assumes nothing.
use Prim.Native.Nat.{ℕ, ◌+◌, ◌<◌}
use native.Mathlib.Omega.{arith}
use mathlib.Core.Path.{◌≡◌, ◌∙◌}
use mathlib.Core.List.{List}
use borrow.Author.Count.{below_none, below_more}
use lib.ListN.{length, get_or, set}
use lib.Seq.{get_or-set_same, get_or-set_other}

-- the first n elements are f's
unfoldable pub Filled : (ℕ → ℕ) → List ℕ → ℕ → Type 0
Filled f xs n = (k : ℕ) → k < n → get_or xs k 0 ≡ f k

pub filled_none : (f : ℕ → ℕ) (xs : List ℕ) → Filled f xs 0
unfolding Filled
filled_none f xs = below_none (λ k. get_or xs k 0 ≡ f k)

pub filled_more : (f : ℕ → ℕ) (xs : List ℕ) (n v : ℕ) → n < length xs → v ≡ f n → Filled f xs n → Filled f (set xs n v) (n + 1)
unfolding Filled
filled_more f xs n v h e q =
    below_more (λ k. get_or (set xs n v) k 0 ≡ f k) n
    (λ k l. get_or-set_other xs n k v 0 (λ z. omega arith) ∙ q k l)
    (get_or-set_same xs n v 0 h ∙ e)

-- as far as another number that is the same
pub filled_to : (f : ℕ → ℕ) (xs : List ℕ) (m n : ℕ) → m ≡ n → Filled f xs m → Filled f xs n
filled_to f xs m n e q = rw e at q
