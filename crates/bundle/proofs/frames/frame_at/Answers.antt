-- `frame_at`: a whole frame lies inside. Assumes nothing.
use Rattle.octets.proofs.Tools.{arith}
use Rattle.bundle.proofs.FrameLaws.{of_size}
use Rattle.bundle.proofs.frames.frame_at.Goals as goal

pub returns-clause-inside : goal.returns-clause-inside
returns-clause-inside c = rw c.frame_of.ensures (omega (arith, of_size c.get_le.result c.get_le-len.result))
