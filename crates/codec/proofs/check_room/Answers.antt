-- `check_room`: the test is the definition's. Assumes nothing.
use Rattle.octets.proofs.Tools.{le-leb, lt-leb}
use Rattle.codec.specs.Codec.{room_answer}
use Rattle.codec.proofs.check_room.Goals as goal

pub returns-then-len-room : goal.returns-then-len-room
unfolding room_answer
returns-then-len-room c = simp (le-leb _ _ c.if-len-room.true)

pub returns-else-len-room : goal.returns-else-len-room
unfolding room_answer
returns-else-len-room c = simp (lt-leb _ _ c.if-len-room.false)
