-- `store`: the law of two halves. Assumes nothing.
use Rattle.octets.proofs.Tools.{rules}
use Rattle.octets.proofs.OctetsLaws.{put-parts}
use Rattle.octets.proofs.number.AnyNumber.store.Goals as goal

pub returns : goal.returns
returns g c = rw put-parts (search rules)
