-- `threadwicket_gate_raw`: the number of the slot of the gate's answer, and its count where there is room. Assumes nothing.
use Rattle.export.proofs.LentLaws.{lent-short, lent-done}
use Rattle.export_gate.proofs.threadwicket_gate_raw.Goals as goal

pub returns-then-reading-lt-READING : goal.returns-then-reading-lt-READING
returns-then-reading-lt-READING c = lent-short c.if-reading-lt-READING.true

pub returns : goal.returns
returns c =
    rw (← c.gate-answer.ensures) (lent-done c.if-reading-lt-READING.false c.slot_number.ensures c.put_le.ensures)
