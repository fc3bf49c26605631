-- `is_unspecified`: sixteen bytes as eight and eight. Assumes nothing.
use Rattle.endpoint.proofs.ZeroLaws.{zero-two}
use Rattle.endpoint.proofs.is_unspecified.Goals as goal

pub returns : goal.returns
returns c = zero-two _ 0 8 8 c.get_le.ensures c.get_le-2.ensures
