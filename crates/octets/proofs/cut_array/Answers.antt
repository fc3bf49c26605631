-- `cut_array`: the octets that lie inside are copied, and the others stay zero. Assumes nothing.
use Rattle.octets.proofs.PartsLaws.{octets-padded}
use Rattle.std.proofs.lemmas.List.{drop-replicate}
use Rattle.octets.proofs.cut_array.Goals as goal

pub returns : goal.returns
returns g c = let a = c.args in rw (c.copy_from_slice.ensures.after, c.part-inside.ensures, drop-replicate, octets-padded a.s.now a.at g.row.N)
