-- `initial`: the numbers are all zero, and the checker computes the rule. Assumes nothing.
use Rattle.codec.proofs.CodecLaws.{refl}
use Rattle.authority.specs.Current.{current_listed, token_fits, cookie_fits}
use Rattle.authority.proofs.current.CurrentFenceToken.initial.Goals as goal

pub returns : goal.returns
unfolding current_listed token_fits cookie_fits
returns c = record { number = refl; value = refl }
