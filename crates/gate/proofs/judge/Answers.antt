-- `judge`: the code's tests are those to which rules 9 to 13 come of the record that was found. Assumes nothing.
use Rattle.octets.proofs.Tools.{sym}
use Rattle.codec.proofs.AnswerLaws.{refusal_not0}
use Rattle.gate.proofs.TestLaws.{judged, not_judged}
use Rattle.gate.proofs.judge.Goals as goal

pub returns-in_default : goal.returns-in_default
returns-in_default c = sym (not_judged _ _ _ _ (refusal_not0 c.in_default.field-0) c.in_default.ensures)

pub returns-then-is_stale : goal.returns-then-is_stale
returns-then-is_stale c = rw (judged _ _ _ _ _ c.in-Ok.ensures, ← c.is_stale.ensures, c.if-is_stale.true)

pub returns-then-is_closed : goal.returns-then-is_closed
returns-then-is_closed c = rw (judged _ _ _ _ _ c.in-Ok.ensures, ← c.is_stale.ensures, c.if-is_stale.false, ← c.is_closed.ensures, c.if-is_closed.true)

pub returns-then-is_expired : goal.returns-then-is_expired
returns-then-is_expired c =
    rw (judged _ _ _ _ _ c.in-Ok.ensures, ← c.is_stale.ensures, c.if-is_stale.false, ← c.is_closed.ensures, c.if-is_closed.false, ← c.is_expired.ensures, c.if-is_expired.true)

pub returns : goal.returns
returns c =
    rw (judged _ _ _ _ _ c.in-Ok.ensures, ← c.is_stale.ensures, c.if-is_stale.false, ← c.is_closed.ensures, c.if-is_closed.false, ← c.is_expired.ensures, c.if-is_expired.false)
