-- A layout stored field by field, which the functions inside a codec are held to. What a codec promises does not rest on it: the octets
-- that stand in the end are those of `laid` (`puts-laid`). Assumes nothing.
use Rattle.std.specs.Prelude.{ℕ, ◌+◌, List, [], ◌∷◌}
use Rattle.octets.specs.Octets.{put}
use Rattle.codec.specs.Layout.{Field, width, bytes_of}

-- d with the fields' octets from the place at on, one field after the other
abbrev pub puts : List Field → List ℕ → List ℕ → ℕ → List ℕ
puts [] vs d at = d
puts (f ∷ fs) [] d at = d
puts (f ∷ fs) (v ∷ vs) d at = puts fs vs (put d at (bytes_of f v)) (at + width f)
