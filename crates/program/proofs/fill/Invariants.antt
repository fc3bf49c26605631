-- `fill`: the bytes read stay within the slice, which keeps its length, and each turn but the last reads one or more. Assumes nothing.
use Rattle.octets.specs.Words.{◌-◌, ◌≤◌, ◌≡◌, length}
use Rattle.program.proofs.fill.Given as goal

abbrev pub invariant-loop-at : goal.invariant-loop-at
invariant-loop-at g l = (l.at ≤ length l.space) × (length l.space ≡ length l.initial.space)

abbrev pub decreases-loop-at : goal.decreases-loop-at
decreases-loop-at g l = length l.space - l.at
