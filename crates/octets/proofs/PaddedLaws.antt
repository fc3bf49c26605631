-- Parts of lists that are zero, and parts that are equal, with zeros after them. Assumes nothing.
use Rattle.octets.specs.Words.{ℕ, zero, suc, ◌+◌, ◌-◌, ◌*◌, ◌<◌, ◌≤◌, ◌≡◌, Bool, true, false, ◌&&◌, List, [], ◌∷◌, ◌++◌, length, take, drop, replicate, eqb}
use Rattle.octets.specs.Octets.{octets_at, le, all_zero, same_octets}
use Rattle.octets.proofs.Tools.{refl, sym, ap, ◌∙◌, arith, eq-eqb, ne_eqb}
use Rattle.octets.proofs.Choices.{and-true, and-false, and_assoc}
use Rattle.octets.proofs.OctetsLaws.{eqb-sym, octets-whole, zero_number}
use Rattle.octets.proofs.PartsLaws.{octets-padded}
use Rattle.std.proofs.lemmas.List.{length-take, length-take-le, take-append-drop}
use lib.ListN.{length-drop}
use lib.Seq.{drop-drop}
use Rattle.std.specs.Simd.{first_chunks}
use Rattle.std.specs.Prelude.{min}
use Rattle.std.specs.Bool.{MatchBool}
use Rattle.std.specs.List.{AllWithin, HoldsAt}
use Rattle.std.specs.Cmp.Lexicographic.{pointwise}
use native.Mathlib.Nat.{zero-add}
use mathlib.Core.Logic.{◌≢◌}

all_none : (octets : List ℕ) → AllWithin (λ x. x ≡ 0) octets 0 (length octets) → true ≡ all_zero octets
unfolding all_zero
all_none [] h = refl
all_none (b ∷ l) h =
    let first : b ≡ 0 = h 0 0 (omega arith) (omega arith) in
    rw (eq-eqb b 0 first) (all_none l (λ k d low high. h (suc k) d (omega arith) (omega arith)))

one_other : (octets : List ℕ) (k : ℕ) → k < length octets → HoldsAt (λ x. x ≢ 0) octets k → false ≡ all_zero octets
unfolding all_zero
one_other [] k inside h = absurd (omega (arith, inside))
one_other (b ∷ l) zero inside h = rw (ne_eqb b 0 (h 0)) refl
one_other (b ∷ l) (suc k) inside h = rw (← one_other l k (omega arith) h) (sym (and-false (eqb b 0)))

-- no octet is other than zero, or one is
pub zero_cases : (octets : List ℕ) (r : Bool) → MatchBool r (AllWithin (λ x. x ≡ 0) octets 0 (length octets)) ((k : ℕ) × (k < length octets) × HoldsAt (λ x. x ≢ 0) octets k) →
    r ≡ all_zero octets
zero_cases octets true h = all_none octets h
zero_cases octets false (k, inside, other) = one_other octets k inside other

-- zeros after some octets change nothing
pub zero_padded : (x : List ℕ) (n : ℕ) → all_zero (x ++ replicate n 0) ≡ all_zero x
unfolding all_zero
zero_padded [] zero = refl
zero_padded [] (suc n) = zero_padded [] n
zero_padded (b ∷ x) n = rw (zero_padded x n) refl

same-self : (x : List ℕ) → same_octets x x ≡ true
unfolding same_octets
same-self [] = refl
same-self (b ∷ x) = rw (eq-eqb b b refl) (same-self x)

zeros-left : (y : List ℕ) (m n : ℕ) → m ≡ length y + n → same_octets (replicate m 0) (y ++ replicate n 0) ≡ all_zero y
unfolding same_octets all_zero
zeros-left [] m n e = rw (e, zero-add) (same-self (replicate n 0))
zeros-left (b ∷ y) zero n e = absurd (omega (arith, e))
zeros-left (b ∷ y) (suc m) n e = rw (zeros-left y m n (omega (arith, e)), eqb-sym 0 b _ _ refl refl) refl

zeros-right : (x : List ℕ) (m n : ℕ) → length x + m ≡ n → same_octets (x ++ replicate m 0) (replicate n 0) ≡ all_zero x
unfolding same_octets all_zero
zeros-right [] m n e = rw (← e, zero-add) (same-self (replicate m 0))
zeros-right (b ∷ x) m zero e = absurd (omega (arith, e))
zeros-right (b ∷ x) m (suc n) e = rw (zeros-right x m n (omega (arith, e))) refl

-- of octets that are padded alike those are compared that both have, and the others have to be zero
pub same_padded : (x y : List ℕ) (k m n : ℕ) → k ≡ min (length x) (length y) → length x + m ≡ length y + n →
    same_octets (x ++ replicate m 0) (y ++ replicate n 0) ≡ (pointwise eqb (take k x) (take k y) && (all_zero (drop k x) && all_zero (drop k y)))
unfolding same_octets all_zero
same_padded [] y zero m n is e = zeros-left y m n (omega (arith, e))
same_padded [] y (suc k) m n is e = absurd (omega (arith, is))
same_padded (b ∷ x) [] zero m n is e = zeros-right (b ∷ x) m n (omega (arith, e)) ∙ sym (and-true (all_zero (b ∷ x)))
same_padded (b ∷ x) [] (suc k) m n is e = absurd (omega (arith, is))
same_padded (b ∷ x) (c ∷ y) zero m n is e = absurd (omega (arith, is))
same_padded (b ∷ x) (c ∷ y) (suc k) m n is e = rw (same_padded x y k m n (omega (arith, is)) (omega (arith, e))) (sym (and_assoc (eqb b c) (pointwise eqb (take k x) (take k y)) (all_zero (drop k x) && all_zero (drop k y))))

-- so of two places those octets are compared that lie inside both, and the others inside either have to be zero
pub same_inside : (a b x y : List ℕ) (i j n k : ℕ) → x ≡ take n (drop i a) → y ≡ take n (drop j b) → k ≡ min (length x) (length y) →
    same_octets (octets_at a i n) (octets_at b j n) ≡ (pointwise eqb (take k x) (take k y) && (all_zero (drop k x) && all_zero (drop k y)))
same_inside a b x y i j n k px py is =
    let p : length x ≡ min n (length (drop i a)) = rw px (length-take n (drop i a)) in
    let q : length y ≡ min n (length (drop j b)) = rw py (length-take n (drop j b)) in
    rw (octets-padded a i n, octets-padded b j n, ← px, ← py) (same_padded x y k (n - length x) (n - length y) is (omega (arith, p, q)))

-- ---- eight octets at a time

all_zero-append : (x y : List ℕ) → all_zero (x ++ y) ≡ (all_zero x && all_zero y)
unfolding all_zero
all_zero-append [] y = refl
all_zero-append (b ∷ x) y = rw (all_zero-append x y) (sym (and_assoc (eqb b 0) (all_zero x) (all_zero y)))

-- of eight octets or more the first eight are asked as one number, and then the rest
eight-first : (l : List ℕ) → 8 ≤ length l → all_zero l ≡ (eqb (le (octets_at (take 8 l) 0 8)) 0 && all_zero (drop 8 l))
eight-first l h =
    ap all_zero (sym (take-append-drop 8 l)) ∙ all_zero-append (take 8 l) (drop 8 l)
    ∙ rw (octets-whole (take 8 l) 8 (length-take-le 8 l h), zero_number)

words-zero : (m : ℕ) (l : List ℕ) → 8 * m ≤ length l → AllWithin (λ w. le (octets_at w 0 8) ≡ 0) (first_chunks 8 m l) 0 (length (first_chunks 8 m l)) → all_zero (drop (8 * m) l) ≡ all_zero l
words-zero zero l inside h = refl
words-zero (suc m) l inside h =
    let first : le (octets_at (take 8 l) 0 8) ≡ 0 = h 0 [] (omega arith) (omega arith) in
    let next : 8 * suc m ≡ 8 + 8 * m = omega arith in
    let rest : all_zero (drop (8 * m) (drop 8 l)) ≡ all_zero (drop 8 l) =
    words-zero m (drop 8 l) (rw length-drop (omega arith)) (λ k d low high. h (suc k) d (omega arith) (omega arith)) in
    rw (next, ← drop-drop, rest, eight-first l (omega arith), eq-eqb _ _ first)

word-other : (m : ℕ) (l : List ℕ) (k : ℕ) → 8 * m ≤ length l → k < length (first_chunks 8 m l) → HoldsAt (λ w. le (octets_at w 0 8) ≢ 0) (first_chunks 8 m l) k → false ≡ all_zero l
word-other zero l k inside within h = absurd (omega (arith, within))
word-other (suc m) l zero inside within h = rw (eight-first l (omega arith), ne_eqb _ _ (h []))
word-other (suc m) l (suc k) inside within h =
    rw (eight-first l (omega arith), ← word-other m (drop 8 l) k (rw length-drop (omega arith)) (omega arith) h) (sym (and-false _))

-- no eight octets are other than zero, and what is left over is zero; or some are
pub words_cases : (l : List ℕ) (m : ℕ) (r : Bool) → 8 * m ≤ length l →
    MatchBool r (AllWithin (λ w. le (octets_at w 0 8) ≡ 0) (first_chunks 8 m l) 0 (length (first_chunks 8 m l)))
    ((k : ℕ) × (k < length (first_chunks 8 m l)) × HoldsAt (λ w. le (octets_at w 0 8) ≢ 0) (first_chunks 8 m l) k) →
    (r && all_zero (drop (8 * m) l)) ≡ all_zero l
words_cases l m true inside h = words-zero m l inside h
words_cases l m false inside (k, within, other) = word-other m l k inside within other
