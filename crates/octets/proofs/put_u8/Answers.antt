-- `put_u8` stores the octet at the place; past the end the definition's store changes nothing, as the code does. Assumes nothing.
use Rattle.octets.proofs.Tools.{sym}
use native.Mathlib.Nat.{mod-eq_of_lt}
use lib.Seq.{set_out}
use Rattle.octets.specs.Octets.{le_bytes, put}
use Rattle.octets.proofs.put_u8.Goals as goal

pub returns-then-at-d : goal.returns-then-at-d
unfolding put le_bytes
returns-then-at-d c = rw (mod-eq_of_lt c.ranges.v.fits)

pub returns-else-at-d : goal.returns-else-at-d
unfolding put le_bytes
returns-else-at-d c = sym (set_out _ _ _ c.if-at-d.false)
