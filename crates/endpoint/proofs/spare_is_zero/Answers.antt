-- `spare_is_zero`: the twelve octets that are asked are those of the definition. Assumes nothing.
use Rattle.endpoint.proofs.spare_is_zero.Goals as goal

pub returns : goal.returns
returns c = c.is_zero.ensures
