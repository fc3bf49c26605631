-- The sorting covers every next-header value once: one test over the 256 values, which the checker computes. Assumes nothing.
use Rattle.octets.specs.Words.{ℕ, zero, suc, ◌<◌, ◌≡◌, Bool, true, false, ◌&&◌, List, [], ◌∷◌, eqb}
use Rattle.octets.proofs.Tools.{refl, sym, true≢false, arith, eqb-true}
use Rattle.octets.proofs.Choices.{both}
use mathlib.Core.Logic.{⊎_elim}
use native.Mathlib.Nat.{eq-or-lt_of_le}
use Rattle.packet.specs.Reading.{sort_of}
use Rattle.packet.specs.Promises.{lines, having, or_other, SortedOnce}

-- the list is one number, k
only : ℕ → List ℕ → Bool
only k [] = false
only k (x ∷ []) = eqb x k
only k (x ∷ (y ∷ l)) = false

only_one : (k : ℕ) (l : List ℕ) → only k l ≡ true → l ≡ k ∷ []
unfolding only
only_one k [] q = absurd (true≢false (sym q))
only_one k (x ∷ []) q = let e : x ≡ k = eqb-true x k q in cc
only_one k (x ∷ (y ∷ l)) q = absurd (true≢false (sym q))

-- a test holds of each number below n
below : (ℕ → Bool) → ℕ → Bool
below f zero = true
below f (suc n) = f n && below f n

below_each : (f : ℕ → Bool) (n : ℕ) → below f n ≡ true → (k : ℕ) → k < n → f k ≡ true
unfolding below
below_each f zero q k h = absurd (omega arith)
below_each f (suc n) q k h =
    let r = both (f n) (below f n) q in
    ⊎_elim (λ e. let e' : k ≡ n = omega arith in rw e' r.0) (λ l. below_each f n r.1 k (omega arith)) (eq-or-lt_of_le h)

pub sorted-once : SortedOnce
unfolding below only or_other having lines sort_of
sorted-once n h = only_one (sort_of n) _ (below_each (λ k. only (sort_of k) (or_other (having 0 k lines))) 256 refl n h)
