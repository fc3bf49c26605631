-- Bytes of an address that are asked as two numbers: they are zero where both numbers are. Assumes nothing.
use Rattle.octets.specs.Words.{ℕ, ◌+◌, ◌≡◌, Bool, false, ◌&&◌, List, eqb}
use Rattle.octets.specs.Octets.{octets_at, le, all_zero}
use Rattle.octets.proofs.Tools.{sym, ap, ◌∙◌}
use Rattle.octets.proofs.OctetsLaws.{zero-parts, zero_number}

pub zero-two : (a : List ℕ) (at n m : ℕ) {x y : ℕ} → x ≡ le (octets_at a at n) → y ≡ le (octets_at a (at + n) m) → (eqb x 0 && eqb y 0) ≡ all_zero (octets_at a at (n + m))
zero-two a at n m p q =
    (λ i. eqb (p i) 0 && eqb (q i) 0) ∙ (λ i. zero_number (octets_at a at n) i && zero_number (octets_at a (at + n) m) i) ∙ sym (zero-parts a at n m)

-- an address is not zero where its first ten bytes are not
pub other_prefix : (a : List ℕ) → all_zero (octets_at a 0 10) ≡ false → all_zero (octets_at a 0 16) ≡ false
other_prefix a h = zero-parts a 0 10 6 ∙ ap (λ (b : Bool). b && all_zero (octets_at a 10 6)) h
