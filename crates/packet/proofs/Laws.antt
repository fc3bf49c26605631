-- Laws of the definitions: the walk, a step at a time; and an IPv6 address, as two numbers. Assumes nothing.
use Rattle.octets.specs.Words.{ℕ, zero, suc, ◌+◌, ◌-◌, ◌<◌, ◌≤◌, ◌≡◌, ◌&&◌, List, eqb}
use Rattle.octets.proofs.Tools.{sym, arith}
use Rattle.octets.specs.Octets.{Bytes, octets_at, le, same_octets}
use Rattle.octets.proofs.SameLaws.{same-halves}
use Rattle.octets.proofs.Choices.{cond-all}
use native.Mathlib.Numerals.{sub-one}
use Rattle.packet.specs.Reading.{Disposition, indeterminate, Outcome, settled, onward, follow, sort_of, by_class, counted_of, fragment_of, step_of, stop, passed, walk_of}

by_class-all : {A : Type 0} (P : A → Type 0) (k : ℕ) {p u o w f x : A} → P p → P u → P o → P w → P f → P x → P (by_class k p u o w f x)
by_class-all P k pp pu po pw pf px =
    cond-all P (eqb k 0) pp (cond-all P (eqb k 1) pu (cond-all P (eqb k 2) po (cond-all P (eqb k 3) pw (cond-all P (eqb k 4) pf px))))

abbrev Stops : Outcome → Type 0
Stops o = (n c : ℕ) → o ≡ onward n c → ⊥

settled-stops : {c : ℕ} {d : Disposition} → Stops (settled c d)
settled-stops n c q = let z : ◌≡◌ {A = ℕ} 0 1 = cc in omega arith

module _ (s : List ℕ) (port e : ℕ) where
  -- with no allowance every step stops
  none-stops : (n c : ℕ) → Stops (step_of s port e 0 n c)
  unfolding step_of counted_of fragment_of
  none-stops n c = by_class-all Stops (sort_of n) settled-stops settled-stops settled-stops settled-stops settled-stops settled-stops

  -- at most as many headers are passed as the allowance has
  pub walk-count : (a n c : ℕ) → (walk_of s port e a n c).headers ≤ a
  unfolding walk_of
  walk-count zero n c = go (step_of s port e 0 n c)
    where
      go : (o : Outcome) → (follow stop o (λ _ c'. stop c' indeterminate)).headers ≤ 0
      go (settled c' d) = omega arith
      go (onward n' c') = omega arith
  walk-count (suc a) n c = go (step_of s port e (suc a) n c) (λ n' c'. walk-count a n' c')
    where
      go : (o : Outcome) → ((n' c' : ℕ) → (walk_of s port e a n' c').headers ≤ a) → (follow stop o (λ n' c'. passed (walk_of s port e a n' c'))).headers ≤ suc a
      go (settled c' d) h = omega arith
      go (onward n' c') h = omega (arith, h n' c')

  -- where a step settles, the walk is over
  pub walk_over : (a n c : ℕ) (d : Disposition) → settled c d ≡ step_of s port e a n c → walk_of s port e a n c ≡ stop c d
  unfolding walk_of
  walk_over zero n c d p = rw (← p)
  walk_over (suc a) n c d p = rw (← p)

  -- where it goes on, there was an allowance, and the walk is the rest's with one header more
  pub allowed : (a n c n' c' : ℕ) → onward n' c' ≡ step_of s port e a n c → 0 < a
  allowed zero n c n' c' p = absurd (none-stops n c n' c' (sym p))
  allowed (suc a) n c n' c' p = omega arith

  pub walk_on : (a n c n' c' : ℕ) → onward n' c' ≡ step_of s port e a n c → walk_of s port e a n c ≡ passed (walk_of s port e (a - 1) n' c')
  unfolding walk_of
  walk_on zero n c n' c' p = absurd (none-stops n c n' c' (sym p))
  walk_on (suc a) n c n' c' p = rw (← p, sub-one)

-- sixteen octets, as two numbers of eight
pub same_sixteen : (s t : List ℕ) (i j : ℕ) → Bytes s → Bytes t →
    same_octets (octets_at s i 16) (octets_at t j 16) ≡ (eqb (le (octets_at s i 8)) (le (octets_at t j 8)) && eqb (le (octets_at s (i + 8) 8)) (le (octets_at t (j + 8) 8)))
same_sixteen s t i j a b = same-halves s t i j 8 8 a b
