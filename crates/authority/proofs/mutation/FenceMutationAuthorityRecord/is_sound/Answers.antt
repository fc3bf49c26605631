-- `is_sound`: of a claim that is not 0, the one before it is the generation where it is the one after the generation. Assumes nothing.
use Rattle.octets.specs.Words.{ℕ, ◌+◌, ◌-◌, ◌≤◌, ◌≡◌, Bool, true, false, ◌&&◌, eqb, ltb}
use Rattle.octets.proofs.Tools.{refl, arith, eq-eqb, ne_eqb, eqb-true, eqb-false, lt-ltb, rules}
use Rattle.octets.proofs.Choices.{and-true, and-false}
use Rattle.authority.specs.Mutation.{claim_fits}
use Rattle.authority.proofs.mutation.FenceMutationAuthorityRecord.is_sound.Goals as goal

after : (g c : ℕ) → (c ≡ 0 → ⊥) → c ≤ 0xffff_ffff_ffff_ffff → eqb (c - 1) g ≡ (ltb g 0xffff_ffff_ffff_ffff && eqb c (g + 1))
after g c h most = go (eqb c (g + 1)) refl
  where
    go : (b : Bool) → eqb c (g + 1) ≡ b → eqb (c - 1) g ≡ (ltb g 0xffff_ffff_ffff_ffff && b)
    go true e = let q = eqb-true c (g + 1) e in simp (eq-eqb (c - 1) g (omega arith), lt-ltb g 0xffff_ffff_ffff_ffff (omega arith))
    go false e = let q = eqb-false c (g + 1) e in simp (ne_eqb (c - 1) g (λ p. q (omega arith)), and-false)

pub returns-then-claim-eq0 : goal.returns-then-claim-eq0
unfolding claim_fits
returns-then-claim-eq0 c = simp (eq-eqb _ _ c.if-claim-eq0.true)

pub returns-else-claim-eq0 : goal.returns-else-claim-eq0
unfolding claim_fits
returns-else-claim-eq0 c =
    let v = c.args.self in
    simp (ne_eqb _ _ c.if-claim-eq0.false, and-true) (after v.generation v.in_flight_claim c.if-claim-eq0.false (search rules))
