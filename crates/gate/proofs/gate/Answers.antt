-- `gate`: the verdict is that of the rule that `first_rule` finds, and the count that of its reading. Assumes nothing.
use Rattle.gate.proofs.RuleLaws.{answered}
use Rattle.gate.proofs.gate.Goals as goal

pub returns : goal.returns
returns c = answered _ _ _ c.verdict.ensures c.first_rule-ruling.ensures
