-- `write`: six fields of zeros are forty octets of zero. Assumes nothing.
use Rattle.octets.specs.Octets.{le_bytes}
use Rattle.inspection.proofs.inspected.write.Goals as goal

pub returns-in-None : goal.returns-in-None
unfolding le_bytes
returns-in-None c = rw c.in-None.is c.put_zeros.ensures
