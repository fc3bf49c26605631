-- The sixteen octets of an address, their number, and the two numbers of eight octets in which the code reads and writes them: each gives
-- the others back. By the laws of octets over the width. Assumes nothing.
use Rattle.octets.specs.Words.{ℕ, ◌+◌, ◌≡◌, List, ◌++◌, length, replicate}
use Rattle.octets.specs.Octets.{Bytes, octets_at, put, le, le_bytes}
use Rattle.octets.proofs.Tools.{refl, sym, ap, ◌∙◌}
use Rattle.octets.proofs.OctetsLaws.{length-octets, octets-append, octets-whole, le_bytes-le, Bytes-octets}

-- octets of a slice, from their number
pub octets-back : (s : List ℕ) (at n : ℕ) → Bytes s → le_bytes n (le (octets_at s at n)) ≡ octets_at s at n
octets-back s at n h = rw length-octets at (le_bytes-le (octets_at s at n) (Bytes-octets s at n h))

pub address-back : (a : List ℕ) → length a ≡ 16 → Bytes a → le_bytes 16 (le (octets_at a 0 16)) ≡ a
address-back a e h = octets-back a 0 16 h ∙ octets-whole a 16 e

-- the octets of an address, put as those of its number
pub put-address : (a d : List ℕ) (at : ℕ) → length a ≡ 16 → Bytes a → put d at a ≡ put d at (le_bytes 16 (le (octets_at a 0 16)))
put-address a d at e h = ap (λ (b : List ℕ). put d at b) (sym (address-back a e h))

-- sixteen octets, from the numbers of eight and eight
halves : (s : List ℕ) (at : ℕ) → Bytes s → octets_at s at 16 ≡ le_bytes 8 (le (octets_at s at 8)) ++ le_bytes 8 (le (octets_at s (at + 8) 8))
halves s at h = rw (octets-back s at 8 h, octets-back s (at + 8) 8 h) (octets-append s at 8 8)

in-zeros : (a b : ℕ) → put (put (replicate 16 0) 0 (le_bytes 8 a)) 8 (le_bytes 8 b) ≡ le_bytes 8 a ++ le_bytes 8 b
unfolding put le_bytes
in-zeros a b = refl

-- read so, and stored into sixteen zeros
pub read-halves : (s : List ℕ) (at : ℕ) → Bytes s →
    put (put (replicate 16 0) 0 (le_bytes 8 (le (octets_at s at 8)))) 8 (le_bytes 8 (le (octets_at s (at + 8) 8))) ≡ octets_at s at 16
read-halves s at h = in-zeros (le (octets_at s at 8)) (le (octets_at s (at + 8) 8)) ∙ sym (halves s at h)

-- the same, of what was read and stored
pub stored-halves : (s : List ℕ) (at : ℕ) {a b : ℕ} {d e : List ℕ} → Bytes s → a ≡ le (octets_at s at 8) → b ≡ le (octets_at s (at + 8) 8) →
    d ≡ put (replicate 16 0) 0 (le_bytes 8 a) → e ≡ put d 8 (le_bytes 8 b) → e ≡ octets_at s at 16
stored-halves s at {a} {b} h p q f g =
    g ∙ ap (λ l. put l 8 (le_bytes 8 b)) f ∙ (λ i. put (put (replicate 16 0) 0 (le_bytes 8 (p i))) 8 (le_bytes 8 (q i))) ∙ read-halves s at h
