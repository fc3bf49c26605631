-- The measure of a walk is its allowance.
use Rattle.packet.proofs.Reader.+walk.Given as goal

abbrev pub decreases-walk : goal.decreases-walk
decreases-walk l = l.allowance
