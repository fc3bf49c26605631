-- Octets at a place of a slice, the number that octets spell, and the octets of a number, in both orders (RFC 1700, 'Data Notations':
-- network order has the most significant octet first). Assumes nothing.
use Rattle.std.specs.Prelude.{ℕ, zero, suc, ◌+◌, ◌*◌, ◌/◌, ◌%◌, ◌<◌, Bool, true, false, ◌&&◌, List, [], ◌∷◌, reverse, get_or, set, eqb}

-- every element is an octet
abbrev pub Bytes : List ℕ → Type 0
Bytes s = (i : ℕ) → get_or s i 0 < 256

-- the n octets of s from the place at on; past the end of s an octet reads as 0
unfoldable pub octets_at : List ℕ → ℕ → ℕ → List ℕ
octets_at s at zero = []
octets_at s at (suc n) = get_or s at 0 ∷ octets_at s (at + 1) n

-- d with the octets bs from the place at on; an octet that would lie past the end of d is dropped
unfoldable pub put : List ℕ → ℕ → List ℕ → List ℕ
put d at [] = d
put d at (b ∷ bs) = put (set d at b) (at + 1) bs

-- the number that octets spell, least significant octet first
unfoldable pub le : List ℕ → ℕ
le [] = 0
le (b ∷ s) = b + 256 * le s

-- the n octets of a number, least significant octet first
unfoldable pub le_bytes : ℕ → ℕ → List ℕ
le_bytes zero v = []
le_bytes (suc n) v = v % 256 ∷ le_bytes n (v / 256)

-- the same, most significant octet first
unfoldable pub be : List ℕ → ℕ
be s = le (reverse s)

unfoldable pub be_bytes : ℕ → ℕ → List ℕ
be_bytes n v = reverse (le_bytes n v)

-- all octets are zero
unfoldable pub all_zero : List ℕ → Bool
all_zero [] = true
all_zero (b ∷ s) = eqb b 0 && all_zero s

-- as many octets, each equal to its counterpart
unfoldable pub same_octets : List ℕ → List ℕ → Bool
same_octets [] [] = true
same_octets [] (y ∷ t) = false
same_octets (x ∷ s) [] = false
same_octets (x ∷ s) (y ∷ t) = eqb x y && same_octets s t
