-- Octets compared as numbers: n octets of two slices are the same where the numbers that they spell are, so sixteen are compared as two
-- numbers of eight. By induction on n, a digit at a time. Assumes nothing.
use Rattle.octets.specs.Words.{ℕ, zero, suc, ◌+◌, ◌*◌, ◌<◌, ◌≡◌, Bool, true, false, ◌&&◌, List, get_or, eqb}
use Rattle.octets.specs.Octets.{Bytes, octets_at, le, same_octets}
use Rattle.octets.proofs.Tools.{refl, sym, ap, ◌∙◌, arith, eq-eqb, ne_eqb, eqb-true, eqb-false}
use Rattle.octets.proofs.Choices.{and_assoc}
use native.Mathlib.Nat.{zero-add, add-zero, suc-add}

digit-same : (x y p q : ℕ) → x < 256 → y < 256 → (eqb x y && eqb p q) ≡ eqb (x + 256 * p) (y + 256 * q)
digit-same x y p q a b = go (eqb x y) (eqb p q) refl refl
  where
    go : (t u : Bool) → eqb x y ≡ t → eqb p q ≡ u → (t && u) ≡ eqb (x + 256 * p) (y + 256 * q)
    go true true e f = sym (eq-eqb (x + 256 * p) (y + 256 * q) (omega (arith, eqb-true x y e, eqb-true p q f)))
    go true false e f = sym (ne_eqb (x + 256 * p) (y + 256 * q) (λ d. eqb-false p q f (omega arith)))
    go false u e f = sym (ne_eqb (x + 256 * p) (y + 256 * q) (λ d. eqb-false x y e (omega arith)))

-- octets are the same where their numbers are
pub same_numbers : (s t : List ℕ) (i j n : ℕ) → Bytes s → Bytes t →
    eqb (le (octets_at s i n)) (le (octets_at t j n)) ≡ same_octets (octets_at s i n) (octets_at t j n)
unfolding le octets_at same_octets
same_numbers s t i j zero a b = refl
same_numbers s t i j (suc n) a b =
    sym (digit-same (get_or s i 0) (get_or t j 0) _ _ (a i) (b j)) ∙ ap (λ r. eqb (get_or s i 0) (get_or t j 0) && r) (same_numbers s t (i + 1) (j + 1) n a b)

-- and n + m octets where the first n are and the other m
same_parts : (s t : List ℕ) (i j n m : ℕ) →
    same_octets (octets_at s i (n + m)) (octets_at t j (n + m)) ≡ (same_octets (octets_at s i n) (octets_at t j n) && same_octets (octets_at s (i + n) m) (octets_at t (j + n) m))
unfolding octets_at same_octets
same_parts s t i j zero m = rw (zero-add, add-zero i, add-zero j)
same_parts s t i j (suc n) m =
    let u : i + 1 + n ≡ i + suc n = omega arith in
    let v : j + 1 + n ≡ j + suc n = omega arith in
    rw (suc-add, same_parts s t (i + 1) (j + 1) n m, u, v, and_assoc)

-- so n + m octets are compared as two numbers
pub same-halves : (s t : List ℕ) (i j n m : ℕ) → Bytes s → Bytes t →
    same_octets (octets_at s i (n + m)) (octets_at t j (n + m)) ≡
    (eqb (le (octets_at s i n)) (le (octets_at t j n)) && eqb (le (octets_at s (i + n) m)) (le (octets_at t (j + n) m)))
same-halves s t i j n m a b = rw (same_parts s t i j n m, same_numbers s t i j n a b, same_numbers s t (i + n) (j + n) m a b)
