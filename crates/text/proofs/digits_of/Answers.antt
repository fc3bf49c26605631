-- `digits_of`: the digits from i on are written, and those of what is left come before them. Assumes nothing.
use Rattle.octets.proofs.Tools.{arith}
use Rattle.text.proofs.Digits.{digit-more, digit-last, digits-full}
use Rattle.text.proofs.digits_of.Goals as goal

pub returns-then-left-lt10 : goal.returns-then-left-lt10
returns-then-left-lt10 c = digit-last c.loop-i.invariant (omega arith) c.if-left-lt10.true

pub loop-i-preserved : goal.loop-i-preserved
loop-i-preserved c = digit-more c.loop-i.invariant (omega arith) c.if-left-lt10.false

pub returns : goal.returns
returns c = digits-full c.loop-i.invariant (omega arith)
