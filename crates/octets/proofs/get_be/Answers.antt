-- `get_be`: the octets in the other order. Assumes nothing.
use Rattle.octets.proofs.PartsLaws.{turned_read}
use Rattle.octets.proofs.get_be.Goals as goal

pub returns : goal.returns
returns g c = rw (c.turned.ensures, c.get.ensures) (turned_read _ _ _ (λ i. (c.type_inv.s i).fits))
