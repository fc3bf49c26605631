-- `is_zero`: past the end all octets are zero. Assumes nothing.
use Rattle.octets.proofs.PartsLaws.{octets-padded}
use Rattle.octets.proofs.PaddedLaws.{zero_padded}
use Rattle.octets.proofs.is_zero.Goals as goal

pub returns : goal.returns
returns c = let a = c.args in rw (c.are_zero.ensures, c.part.ensures, octets-padded a.s.now a.at a.n, zero_padded)
