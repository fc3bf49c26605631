-- `get_u8` answers the octet at the place, and 0 past the end, where the definition's octet is the default. Assumes nothing.
use Rattle.octets.proofs.Tools.{arith, rules}
use lib.ListN.{get_or-eq_default}
use Rattle.octets.specs.Octets.{le, octets_at}
use Rattle.octets.proofs.get_u8.Goals as goal

pub returns-then-at-s : goal.returns-then-at-s
unfolding le octets_at
returns-then-at-s c = search rules

pub returns-else-at-s : goal.returns-else-at-s
unfolding le octets_at
returns-else-at-s c = omega (arith, get_or-eq_default c.args.s.now 0 c.if-at-s.false)
