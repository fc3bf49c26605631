-- `write`: the head, and one store for each field after it, in the order of the layout. Assumes nothing.
use Rattle.octets.proofs.Tools.{sym}
use Rattle.codec.specs.Head.{head_layout, head_fields}
use Rattle.codec.proofs.LayoutLaws.{puts-laid}
use Rattle.inspection.specs.Inspection.{inspection_mark, inspection_codec}
use Rattle.export.specs.Inner.Steps.{inspection_numbers}
use Rattle.export.proofs.inspection_view.InspectionFieldsImage.write.Goals as goal

pub returns : goal.returns
returns c =
    let a = c.args in
    rw (c.put_zeros.ensures, c.put_le-12.ensures, c.put_le-11.ensures, c.put_le-10.ensures, c.put_le-9.ensures, c.put_le-8.ensures, c.put_le-7.ensures, c.put_le-6.ensures, c.put_le-5.ensures, c.put_le-4.ensures, c.put_le-3.ensures, c.put_le-2.ensures, c.put_le.ensures, c.put_head.ensures, sym (puts-laid head_layout (head_fields inspection_mark 5 a.self.flag) a.out.now 0))
    (puts-laid inspection_codec.layout (inspection_numbers a.self) a.out.now 0)
