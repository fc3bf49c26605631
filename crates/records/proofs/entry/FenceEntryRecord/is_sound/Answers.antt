-- `is_sound`: a record's own word is listed, and its zeros are zero. Assumes nothing.
use Rattle.octets.proofs.Choices.{and-true}
use Rattle.records.proofs.States.{control-listed}
use Rattle.records.proofs.entry.FenceEntryRecord.is_sound.Goals as goal

pub returns : goal.returns
returns c = simp (control-listed, and-true) c.fits.ensures
