-- Lists that a call leaves in lent memory.
use Rattle.std.specs.Prelude.{ℕ, suc, Bool, cond, List, [], ◌∷◌, ◌++◌, length, drop}

-- a list with f k in place of each element whose index k passes q; the first element has the index `from`
unfoldable pub overlaid_from : (ℕ → Bool) → (ℕ → ℕ) → ℕ → List ℕ → List ℕ
overlaid_from q f from [] = []
overlaid_from q f from (x ∷ xs) = cond (q from) (f from) x ∷ overlaid_from q f (suc from) xs

unfoldable pub overlaid : (ℕ → Bool) → (ℕ → ℕ) → List ℕ → List ℕ
overlaid q f xs = overlaid_from q f 0 xs

-- room with a text written at its front, and what stood behind it
unfoldable pub in_room : List ℕ → List ℕ → List ℕ
in_room text room = text ++ drop (length text) room
