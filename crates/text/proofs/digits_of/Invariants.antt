-- `digits_of`: the digits from i on are written, and those of what is left come before them. Assumes nothing.
use Rattle.text.proofs.Digits.{Digits}
use Rattle.text.proofs.digits_of.Given as goal

abbrev pub invariant-loop-i : goal.invariant-loop-i
invariant-loop-i l = Digits l.n l.i l.left l.digits
