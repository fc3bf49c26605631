-- What is proved of text. Assumes nothing.
use Rattle.std.specs.Prelude.{ℕ, suc, ◌+◌, ◌-◌, ◌*◌, ◌^◌, ◌<◌, ◌≤◌, ◌≡◌, cond, List, [], ◌∷◌, ◌++◌, length, eqb}
use Rattle.text.specs.Text.{decimal, last_place, after, Wrote}

-- ---- places

-- texts written one after the other are the text joined; every slice has the length that is asked
abbrev pub Joins : Type 0
Joins = (d d' d'' a b : List ℕ) (at m r : ℕ) → length d ≤ last_place → Wrote d at a d' m → Wrote d' m b d'' r → Wrote d at (a ++ b) d'' r

-- the place after a text that is written at the start is its length
abbrev pub Measures : Type 0
Measures = (n : ℕ) → n ≤ last_place → after 0 n ≡ n

-- ---- numbers

-- the number that decimal digits spell, after a number that stands before them
unfoldable pub spelled : ℕ → List ℕ → ℕ
spelled n [] = n
spelled n (d ∷ s) = spelled (n * 10 + (d - 48)) s

-- a number of at most twenty digits is read back from them
abbrev pub ReadsBack : Type 0
ReadsBack = (n : ℕ) → n < 10 ^ 20 → spelled 0 (decimal n) ≡ n

-- a number below a power of ten has at most so many digits, and one at least
abbrev pub FewDigits : Type 0
FewDigits = (k n : ℕ) → n < 10 ^ suc k → length (decimal n) ≤ suc k

-- ---- lines

-- how many newlines a text has
unfoldable pub newlines : List ℕ → ℕ
newlines [] = 0
newlines (b ∷ s) = cond (eqb b 10) (suc (newlines s)) (newlines s)

-- joined texts have the newlines of both
abbrev pub NewlinesAdd : Type 0
NewlinesAdd = (a b : List ℕ) → newlines (a ++ b) ≡ newlines a + newlines b

-- a number in decimal has none
abbrev pub NoNewline : Type 0
NoNewline = (n : ℕ) → newlines (decimal n) ≡ 0
