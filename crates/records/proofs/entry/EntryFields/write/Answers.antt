-- `write`: one store for each field, in the order of the layout. Assumes nothing.
use Rattle.codec.proofs.LayoutLaws.{puts-laid}
use Rattle.records.specs.Entry.{entry_codec, entry_numbers}
use Rattle.records.proofs.entry.EntryFields.write.Goals as goal

pub returns : goal.returns
returns c =
    let a = c.args in
    rw (c.put_le-5.ensures, c.put_le-4.ensures, c.put_le-3.ensures, c.put_le-2.ensures, c.put_le.ensures) (puts-laid entry_codec.layout (entry_numbers a.self) a.out.now 0)
