-- `initial`: the numbers are zero, and the checker computes the rule. Assumes nothing.
use Rattle.codec.proofs.CodecLaws.{refl}
use Rattle.authority.specs.Mutation.{claim_fits}
use Rattle.authority.proofs.mutation.FenceMutationAuthority.initial.Goals as goal

pub returns : goal.returns
unfolding claim_fits
returns c = record { number = refl; value = refl }
