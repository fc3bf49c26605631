-- `authorize`: the code's tests are those to which rules 5 to 8 come of a current record that decodes, or does not; the later rules are
-- `judge`'s. Assumes nothing.
use Rattle.octets.specs.Words.{◌≡◌, length, eqb}
use Rattle.octets.proofs.Tools.{refl, eq-eqb, ne_eqb, rules as known}
use Rattle.codec.proofs.AnswerLaws.{refusal_not0}
use Rattle.gate.specs.Gate.{view_of, rules}
use Rattle.gate.proofs.TestLaws.{looked_up, not_looked_up}
use Rattle.gate.proofs.authorize.Goals as goal

pub returns-then-cookie-eq0 : goal.returns-then-cookie-eq0
unfolding rules view_of
returns-then-cookie-eq0 c = rw (eq-eqb _ _ c.if-cookie-eq0.true)

pub returns-in_default : goal.returns-in_default
returns-in_default c = rw (not_looked_up _ _ _ _ (refusal_not0 c.in_default.field-0) c.in_default.ensures, ne_eqb _ _ c.if-cookie-eq0.false)

pub returns-then-not-is_admissible : goal.returns-then-not-is_admissible
returns-then-not-is_admissible c =
    rw (looked_up _ _ _ _ _ c.in-Ok.ensures _ refl, ne_eqb _ _ c.if-cookie-eq0.false, ← c.is_admissible.ensures, c.if-not-is_admissible.true)

pub returns-then-is_empty : goal.returns-then-is_empty
returns-then-is_empty c =
    let empty : c.is_empty.result ≡ eqb (length c.seek-found.result.now) 0 = search known in
    rw (looked_up _ _ _ _ _ c.in-Ok.ensures _ c.seek-found.ensures, ne_eqb _ _ c.if-cookie-eq0.false, ← c.is_admissible.ensures, c.if-not-is_admissible.false, ← empty, c.if-is_empty.true)

pub returns : goal.returns
returns c =
    let empty : c.is_empty.result ≡ eqb (length c.seek-found.result.now) 0 = search known in
    rw (looked_up _ _ _ _ _ c.in-Ok.ensures _ c.seek-found.ensures, ne_eqb _ _ c.if-cookie-eq0.false, ← c.is_admissible.ensures, c.if-not-is_admissible.false, ← empty, c.if-is_empty.false) c.judge.ensures
