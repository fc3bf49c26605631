-- What a line prints of a verdict: a name of at most fourteen letters, a slot of one byte, and no newline in either. Computed for each
-- verdict. Assumes nothing.
use Rattle.octets.specs.Words.{◌≤◌, ◌≡◌, length}
use Rattle.octets.proofs.Tools.{refl, arith}
use Rattle.text.specs.Text.{decimal_in}
use Rattle.text.specs.Promises.{newlines}
use Rattle.verdict.specs.Verdict.{slot_of}
use Rattle.verdict.specs.declared.FenceVerdict.{FenceVerdict}
use Rattle.verdict.specs.declared.FenceVerdict.TheVariants.{PassUnrelated, Allow, DropCookieZero, DropMissing, DropClosed, DropExpired, DropStaleToken, DropMalformed}
use Rattle.listing.specs.Listing.{name_of, slot_text}

pub record Printed (v : FenceVerdict) : Type 0 where
  pub name : length (name_of v) ≤ 14
  pub slot : length (slot_text (slot_of v)) ≡ 1
  pub name-line : newlines (name_of v) ≡ 0
  pub slot-line : newlines (slot_text (slot_of v)) ≡ 0

pub printed : (v : FenceVerdict) → Printed v
unfolding name_of slot_text decimal_in newlines
printed PassUnrelated = record { name = omega arith; slot = refl; name-line = refl; slot-line = refl }
printed Allow = record { name = omega arith; slot = refl; name-line = refl; slot-line = refl }
printed DropCookieZero = record { name = omega arith; slot = refl; name-line = refl; slot-line = refl }
printed DropMissing = record { name = omega arith; slot = refl; name-line = refl; slot-line = refl }
printed DropClosed = record { name = omega arith; slot = refl; name-line = refl; slot-line = refl }
printed DropExpired = record { name = omega arith; slot = refl; name-line = refl; slot-line = refl }
printed DropStaleToken = record { name = omega arith; slot = refl; name-line = refl; slot-line = refl }
printed DropMalformed = record { name = omega arith; slot = refl; name-line = refl; slot-line = refl }
