-- `put_head`: one store for each field, in the order of the layout. Assumes nothing.
use Rattle.codec.specs.Head.{head_layout, head_fields}
use Rattle.codec.proofs.LayoutLaws.{puts-laid}
use Rattle.codec.proofs.put_head.Goals as goal

pub returns : goal.returns
returns c =
    let a = c.args in
    rw (c.put_u8-2.ensures, c.put_u8.ensures, c.put_le.ensures, c.put_be.ensures) (puts-laid head_layout (head_fields a.mark a.version a.byte) a.out.now 0)
