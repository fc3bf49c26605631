-- Document 01, 'Record layouts': "Mutation, 16: generation, claim." Assumes nothing.
use Rattle.std.specs.Prelude.{ℕ, ◌+◌, ◌^◌, ◌<◌, Bool, ◌&&◌, ◌||◌, [], ◌∷◌, get_or, eqb, ltb}
use Rattle.codec.specs.Words.{little, test, Codec}
use Rattle.authority.specs.declared.mutation.FenceMutationAuthority.{FenceMutationAuthority}

-- of generation and claim: "Claim is 0, or generation + 1 with generation below 2^64 - 1."
unfoldable pub claim_fits : ℕ → ℕ → Bool
claim_fits g c = eqb c 0 || (ltb g 0xffff_ffff_ffff_ffff && eqb c (g + 1))

abbrev pub mutation_codec : Codec FenceMutationAuthority
mutation_codec = record {
  layout = little 8 ∷ little 8 ∷ [];
  tests = test 8 (λ vs. claim_fits (get_or vs 0 0) (get_or vs 1 0)) ∷ [];
  of = λ vs. record { generation = get_or vs 0 0; in_flight_claim = get_or vs 1 0 };
  fields = λ v. v.generation ∷ v.in_flight_claim ∷ [];
  blank = record { generation = 0; in_flight_claim = 0 };
}

-- a value of its type
abbrev pub MutationFormed : FenceMutationAuthority → Type 0
MutationFormed v = (v.generation < 2 ^ 64) × (v.in_flight_claim < 2 ^ 64)
