-- `show`: one store for each own number. Assumes nothing.
use Rattle.export.proofs.ViewLaws.{shown-image}
use Rattle.export.proofs.Viewables.{inspection-viewable}
use Rattle.export.proofs.inspection_view.InspectionFieldsImage.show.Goals as goal

pub returns : goal.returns
returns c e =
    let a = c.args in
    rw (c.carry-8.ensures, c.carry-7.ensures, c.carry-6.ensures, c.carry-5.ensures, c.widen-2.ensures, c.carry-4.ensures, c.carry-3.ensures, c.carry-2.ensures, c.carry.ensures, c.widen.ensures, c.put_le.ensures, c.get_u8.ensures)
    (shown-image inspection-viewable a.bytes.now a.fields.now (λ i. (c.type_inv.bytes i).fits) e)
