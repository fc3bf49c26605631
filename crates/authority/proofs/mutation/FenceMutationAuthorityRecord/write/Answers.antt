-- `write`: one store for each field, in the order of the layout. Assumes nothing.
use Rattle.codec.proofs.LayoutLaws.{puts-laid}
use Rattle.authority.specs.Mutation.{mutation_codec}
use Rattle.authority.proofs.mutation.FenceMutationAuthorityRecord.write.Goals as goal

pub returns : goal.returns
returns c =
    let a = c.args in
    rw (c.put_le-2.ensures, c.put_le.ensures) (puts-laid mutation_codec.layout (mutation_codec.fields a.self) a.out.now 0)
