-- `show`: one store for each own number, and two for the sixteen octets of the address. Assumes nothing.
use Rattle.octets.specs.Octets.{Bytes}
use Rattle.octets.proofs.Tools.{sym, ◌∙◌}
use Rattle.export.proofs.StoreLaws.{sixteen}
use Rattle.export.proofs.ViewLaws.{shown-image}
use Rattle.export.proofs.Viewables.{config-viewable}
use Rattle.export.proofs.config_view.FenceConfigImage.show.Goals as goal

pub returns : goal.returns
returns c e =
    let s = c.args.bytes.now in
    let h : Bytes s = λ i. (c.type_inv.bytes i).fits in
    rw (c.carry-3.ensures, c.carry-2.ensures, c.carry.ensures, c.widen.ensures, c.put_le-2.ensures, c.get_be.ensures, c.put_le.ensures, c.get_u8.ensures)
    (sym (sixteen s 24 h _ 32) ∙ shown-image config-viewable s c.args.fields.now h e)
