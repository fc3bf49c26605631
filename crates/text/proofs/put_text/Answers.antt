-- `put_text`: where there is room that part of the output is filled, else as much is put as has room. A place that lies before the end is a
-- sum. Assumes nothing.
use Rattle.octets.proofs.Tools.{◌∙◌, arith}
use Rattle.text.proofs.TextLaws.{saturated, filled}
use Rattle.text.proofs.put_text.Goals as goal

pub returns-then-end-out : goal.returns-then-end-out
returns-then-end-out c =
    filled _ (omega arith) (omega arith) c.saturating_add-end.ensures c.copy_from_slice.ensures.after

pub returns-else-end-out : goal.returns-else-end-out
returns-else-end-out c = record { bytes = c.put_octets.ensures; past = c.saturating_add-end.ensures ∙ saturated _ _ }
