-- `is_sound`: a record is sound where its parts are. Assumes nothing.
use Rattle.inspection.proofs.InspectionLaws.{inspection-sound}
use Rattle.inspection.proofs.FenceInspectionRecord.is_sound.Goals as goal

pub returns-then-is_sound-2 : goal.returns-then-is_sound-2
returns-then-is_sound-2 c =
    rw (inspection-sound, ← c.is_sound.ensures, c.if-is_sound.true, ← c.is_sound-then-is_sound.ensures, c.if-is_sound-2.true) c.is_sound-then-is_sound-2.ensures

pub returns-else-is_sound-2 : goal.returns-else-is_sound-2
returns-else-is_sound-2 c = rw (inspection-sound, ← c.is_sound.ensures, c.if-is_sound.true, ← c.is_sound-then-is_sound.ensures, c.if-is_sound-2.false)

pub returns-else-is_sound : goal.returns-else-is_sound
returns-else-is_sound c = rw (inspection-sound, ← c.is_sound.ensures, c.if-is_sound.false)
