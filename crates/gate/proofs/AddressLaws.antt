-- Addresses compared as numbers: four octets as one, sixteen as two. Assumes nothing.
use Rattle.octets.specs.Words.{ℕ, ◌≡◌, false, List, ◌&&◌, eqb}
use Rattle.octets.specs.Octets.{Bytes, octets_at, le}
use Rattle.octets.proofs.Tools.{eq-eqb, ne_eqb}
use Rattle.octets.proofs.SameLaws.{same_numbers, same-halves}
use Rattle.gate.specs.Gate.{same_address}

-- p and q are the numbers that the first octets spell, four of an IPv4 address
pub same_four : (f : ℕ) (a b : List ℕ) (p q : ℕ) → f ≡ 4 → Bytes a → Bytes b → p ≡ le (octets_at a 0 4) → q ≡ le (octets_at b 0 4) →
    eqb p q ≡ same_address f a b
unfolding same_address
same_four f a b p q is_4 fits also e e' = rw (eq-eqb _ _ is_4, e, e') (same_numbers _ _ 0 0 4 fits also)

-- and eight of another
module _ (f : ℕ) (a b : List ℕ) (p q : ℕ) (not_4 : f ≡ 4 → ⊥) (fits : Bytes a) (also : Bytes b) (e : p ≡ le (octets_at a 0 8)) (e' : q ≡ le (octets_at b 0 8)) where
  halves : same_address f a b ≡ (eqb p q && eqb (le (octets_at a 8 8)) (le (octets_at b 8 8)))
  unfolding same_address
  halves = rw (ne_eqb _ _ not_4, same-halves _ _ 0 0 8 8 fits also, ← e, ← e')

  -- where these are the same, the other eight decide
  pub same_second : (s t : ℕ) → p ≡ q → s ≡ le (octets_at a 8 8) → t ≡ le (octets_at b 8 8) → eqb s t ≡ same_address f a b
  same_second s t same u w = rw (halves, ← u, ← w, eq-eqb _ _ same)

  pub first_differ : (p ≡ q → ⊥) → false ≡ same_address f a b
  first_differ differ = rw (halves, ne_eqb _ _ differ)
