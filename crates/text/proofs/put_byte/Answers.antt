-- `put_byte`: the byte is stored, or lies past the end. Assumes nothing.
use Rattle.octets.proofs.Tools.{arith}
use Rattle.text.proofs.TextLaws.{byte, byte_past}
use Rattle.text.proofs.put_byte.Goals as goal

pub returns-then-out-at : goal.returns-then-out-at
returns-then-out-at c = byte_past _ _ _ (omega arith) c.saturating_add.ensures

pub returns : goal.returns
returns c = byte _ _ _ (omega arith)
