-- Layouts: a record's bytes are fields side by side, each a number of so many octets in one of the two orders
-- (document 01, 'Record layouts': "Numbers are little-endian except the port"). Assumes nothing.
use Rattle.std.specs.Prelude.{ℕ, ◌+◌, ◌^◌, ◌<◌, List, [], ◌∷◌, ◌++◌}
use Rattle.octets.specs.Octets.{octets_at, le, be, le_bytes, be_bytes}

-- a field of n octets, least or most significant first
pub data Field : Type 0 where
  little : ℕ → Field
  big : ℕ → Field

abbrev pub width : Field → ℕ
width (little n) = n
width (big n) = n

-- the number that a field's octets spell, and the octets of a number in a field
abbrev pub number_of : Field → List ℕ → ℕ
number_of (little n) s = le s
number_of (big n) s = be s

abbrev pub bytes_of : Field → ℕ → List ℕ
bytes_of (little n) v = le_bytes n v
bytes_of (big n) v = be_bytes n v

-- the record's length
abbrev pub size : List Field → ℕ
size [] = 0
size (f ∷ fs) = width f + size fs

-- the numbers of the fields that stand in s from the place at on
abbrev pub fields_at : List Field → List ℕ → ℕ → List ℕ
fields_at [] s at = []
fields_at (f ∷ fs) s at = number_of f (octets_at s at (width f)) ∷ fields_at fs s (at + width f)

-- the octets of a layout that holds the numbers vs
abbrev pub laid : List Field → List ℕ → List ℕ
laid [] vs = []
laid (f ∷ fs) [] = []
laid (f ∷ fs) (v ∷ vs) = bytes_of f v ++ laid fs vs

-- there is a number for each field, and it fits
abbrev pub Fit : List Field → List ℕ → Type 0
Fit [] [] = Unit {0}
Fit [] (v ∷ vs) = ⊥
Fit (f ∷ fs) [] = ⊥
Fit (f ∷ fs) (v ∷ vs) = (v < 256 ^ width f) × Fit fs vs
