-- `prefix_is_zero`: ten bytes as eight and two. Assumes nothing.
use Rattle.endpoint.proofs.ZeroLaws.{zero-two}
use Rattle.endpoint.proofs.prefix_is_zero.Goals as goal

pub returns : goal.returns
returns c = zero-two _ 0 8 2 c.get_le.ensures c.get_le-2.ensures
