-- `read_at`: the fields from the start of the part are those of the whole from its place on. Assumes nothing.
use native.Mathlib.Nat.{add-zero}
use Rattle.inspection.proofs.PartLaws.{part-from, fields-from}
use Rattle.inspection.proofs.parts.read_at.Goals as goal

pub returns : goal.returns
returns g c = rw (part-from c.args.s.now c.args.at c.min.result c.min.ensures, fields-from, add-zero) at c.read.ensures
