-- `next_packet`: what comes next from the cursor is what came next at first, and each frame leaves less of the input. Assumes nothing.
use Rattle.octets.specs.Words.{◌-◌, ◌≡◌, length}
use Rattle.bundle.specs.Cursor.{desk, next_at}
use Rattle.bundle.proofs.frames.next_packet.Given as goal

abbrev pub invariant-loop-cursor : goal.invariant-loop-cursor
invariant-loop-cursor l = next_at l.input (desk l.cursor l.table) ≡ next_at l.input (desk l.fn.from l.initial.table)

abbrev pub decreases-loop-cursor : goal.decreases-loop-cursor
decreases-loop-cursor l = length l.input - l.cursor.at
