-- `padded`: four stores into zeros are the four octets and twelve zeros. Assumes nothing.
use Rattle.octets.specs.Octets.{octets_at}
use Rattle.octets.proofs.Tools.{refl}
use Rattle.endpoint.proofs.padded.Goals as goal

pub returns : goal.returns
unfolding octets_at
returns c = refl
