-- `put_be`: the octets in the other order. Assumes nothing.
use Rattle.octets.proofs.PartsLaws.{turned_put}
use Rattle.octets.proofs.put_be.Goals as goal

pub returns : goal.returns
returns g c = rw (c.put_le.ensures, c.turned.ensures, turned_put)
