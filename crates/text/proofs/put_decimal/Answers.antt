-- `put_decimal`: one digit, or those of a number. Assumes nothing.
use Rattle.octets.proofs.Tools.{arith}
use Rattle.text.proofs.Digits.{one-digit}
use Rattle.text.proofs.put_decimal.Goals as goal

pub returns-then-n-lt10 : goal.returns-then-n-lt10
returns-then-n-lt10 c =
    rw (one-digit c.args.n 20 (omega arith) c.if-n-lt10.true) c.put_byte.ensures
