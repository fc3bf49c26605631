-- `threadwicket_classify_raw`: the number of the classifier's disposition, and its count where there is room. Assumes nothing.
use Rattle.export.proofs.LentLaws.{lent-short, lent-done}
use Rattle.export.proofs.threadwicket_classify_raw.Goals as goal

pub returns-then-reading-lt-READING : goal.returns-then-reading-lt-READING
returns-then-reading-lt-READING c = lent-short c.if-reading-lt-READING.true

pub returns : goal.returns
returns c =
    rw (← c.classify_l3_udp_source-read.ensures) (lent-done c.if-reading-lt-READING.false c.number.ensures c.put_le.ensures)
