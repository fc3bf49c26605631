-- `write`: the parts put at their places are the record's bytes put at the start. Assumes nothing.
use Rattle.inspection.proofs.InspectionLaws.{parts-put}
use Rattle.inspection.proofs.FenceInspectionRecord.write.Goals as goal

pub returns : goal.returns
returns c =
    let a = c.args in
    rw (c.put_zeros.ensures, c.write.ensures, c.write_at-2.ensures, c.write_at.ensures, c.put_head.ensures, c.flag.ensures) (parts-put a.self a.out.now)
