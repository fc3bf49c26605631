-- `write`: one store for each field, in the order of the layout. Assumes nothing.
use Rattle.codec.proofs.LayoutLaws.{puts-laid}
use Rattle.authority.specs.Current.{current_codec, current_numbers}
use Rattle.authority.proofs.current.CurrentFields.write.Goals as goal

pub returns : goal.returns
returns c =
    let a = c.args in
    rw (c.put_le-4.ensures, c.put_le-3.ensures, c.put_le-2.ensures, c.put_le.ensures) (puts-laid current_codec.layout (current_numbers a.self) a.out.now 0)
