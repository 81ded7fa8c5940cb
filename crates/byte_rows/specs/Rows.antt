-- Rows of bytes: lists laid down one after the other, zeros, and a list put into another.
use Rattle.std.specs.Prelude.{ℕ, zero, suc, ◌+◌, cond, List, [], ◌∷◌, ◌++◌, leb, length, take, drop}

-- f 0, f 1 .. one after the other, n of them
unfoldable pub rows : (ℕ → List ℕ) → ℕ → List ℕ
rows f zero = []
rows f (suc n) = rows f n ++ f n

-- n zeros
unfoldable pub zeros : ℕ → List ℕ
zeros zero = []
zeros (suc n) = 0 ∷ zeros n

-- a text in place of the elements of a list from an index on
unfoldable pub put : List ℕ → ℕ → List ℕ → List ℕ
put out to text = take to out ++ text ++ drop (to + length text) out

-- the same in lent memory: what does not fit is not put there
unfoldable pub copied : List ℕ → ℕ → List ℕ → List ℕ
copied out to text = cond (leb (to + length text) (length out)) (put out to text) out
