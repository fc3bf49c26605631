-- `write`: one store for each field, in the order of the layout. Assumes nothing.
use Rattle.codec.proofs.LayoutLaws.{puts-laid}
use Rattle.records.specs.Key.{key_codec}
use Rattle.records.proofs.key.FenceCookieKeyRecord.write.Goals as goal

pub returns : goal.returns
returns c =
    let a = c.args in
    rw (c.put_le-2.ensures, c.put_le.ensures) (puts-laid key_codec.layout (key_codec.fields a.self) a.out.now 0)
