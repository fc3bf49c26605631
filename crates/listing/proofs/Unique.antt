-- The answer of `list` is its contract's alone, and so is what the output holds then. Assumes nothing.
use Rattle.octets.proofs.Tools.{sym, ◌∙◌}
use Rattle.octets.specs.Determined.{Determined}
use Rattle.listing.proofs as the

pub list-determined : Determined the.list.Kinds.ps the.list.Kinds.r the.list.Reads.Learnt
list-determined κs a x y u v p q = (p.answer ∙ sym q.answer, λ i. (u.0, ((p.output ∙ sym q.output) i, u.1.1)))
