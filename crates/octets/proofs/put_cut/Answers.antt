-- The number's octets stand at the beginning of eight. Assumes nothing.
use Rattle.octets.proofs.OctetsLaws.{length-le_bytes}
use Rattle.octets.proofs.PartsLaws.{take-put}
use Rattle.octets.proofs.put_cut.Goals as goal

pub returns : goal.returns
returns g c = rw (c.put_octets.ensures, c.store.ensures, c.width.ensures, take-put _ _ _ (length-le_bytes _ _) g.met.T.Number.at_most_8)
