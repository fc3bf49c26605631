-- Sixteen octets of bytes are two numbers of eight, side by side. Assumes nothing.
use Rattle.octets.specs.Words.{ℕ, zero, suc, ◌+◌, ◌<◌, ◌≡◌, List, [], ◌∷◌, ◌++◌, length, drop, replicate, set}
use Rattle.octets.proofs.Tools.{refl, sym, ap, ◌∙◌, arith, eq-eqb, ne_eqb}
use Rattle.octets.specs.Octets.{Bytes, octets_at, put, le, le_bytes}
use Rattle.octets.proofs.OctetsLaws.{length-octets, octets-append, put-append, put-parts}
use Rattle.config.proofs.AddressLaws.{octets-back}

-- sixteen octets of bytes, stored as the number that they spell, are two numbers of eight side by side
pub sixteen : (s : List ℕ) (i : ℕ) → Bytes s → (d : List ℕ) (j : ℕ) →
    put d j (le_bytes 16 (le (octets_at s i 16))) ≡ put (put d j (le_bytes 8 (le (octets_at s i 8)))) (j + 8) (le_bytes 8 (le (octets_at s (i + 8) 8)))
sixteen s i h d j = rw (octets-back s i 16 h, octets-back s i 8 h, octets-back s (i + 8) 8 h, octets-append s i 8 8, put-append, length-octets)
