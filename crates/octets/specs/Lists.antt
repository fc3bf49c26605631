-- Words on lists of numbers that the definitions above share. Assumes nothing.
use Rattle.std.specs.Prelude.{ℕ, zero, suc, ◌+◌, Bool, false, cond, ◌||◌, List, [], ◌∷◌, map, get_or, eqb, ltb}

-- n is one of the numbers
abbrev pub among : ℕ → List ℕ → Bool
among n [] = false
among n (x ∷ l) = eqb n x || among n l

-- n places from i on
abbrev pub span : ℕ → ℕ → List ℕ
span i zero = []
span i (suc n) = i ∷ span (i + 1) n

-- those of some places that lie inside a slice of n bytes
unfoldable pub inside : ℕ → List ℕ → List ℕ
inside n [] = []
inside n (i ∷ l) = cond (ltb i n) (i ∷ inside n l) (inside n l)

-- the bytes of a slice at some places
unfoldable pub bytes_at : List ℕ → List ℕ → List ℕ
bytes_at s l = map (λ i. get_or s i 0) l
