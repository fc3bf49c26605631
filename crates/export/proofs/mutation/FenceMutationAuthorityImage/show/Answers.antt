-- `show`: one store for each own number. Assumes nothing.
use Rattle.export.proofs.ViewLaws.{shown-image}
use Rattle.export.proofs.Viewables.{mutation-viewable}
use Rattle.export.proofs.mutation.FenceMutationAuthorityImage.show.Goals as goal

pub returns : goal.returns
returns c e =
    let a = c.args in
    rw (c.carry-2.ensures, c.carry.ensures) (shown-image mutation-viewable a.bytes.now a.fields.now (λ i. (c.type_inv.bytes i).fits) e)
