-- `write_at`: what is put at the start of the part stands in the whole at its place; past the end nothing is put. Assumes nothing.
use Rattle.octets.proofs.Tools.{sym, arith}
use Rattle.octets.proofs.OctetsLaws.{put-past}
use Rattle.inspection.proofs.PartLaws.{put-part}
use Rattle.inspection.proofs.parts.write_at.Goals as goal

pub returns-then-at-out : goal.returns-then-at-out
returns-then-at-out g c = put-part c.args.out.now c.args.at _ c.write.ensures

pub returns-else-at-out : goal.returns-else-at-out
returns-else-at-out g c = sym (put-past c.args.out.now c.args.at _ (omega arith))
