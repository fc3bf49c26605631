-- The answer of each public function is its contract's alone: of a decision the contract gives the number, and no two decisions have one
-- number. Assumes nothing.
use Rattle.octets.specs.Words.{ℕ, ◌≡◌, cond, eqb}
use Rattle.octets.proofs.Tools.{refl, sym, ap, ◌∙◌}
use Rattle.octets.proofs.UniqueLaws.{as-told, as-numbered}
use Rattle.octets.specs.Determined.{Determined}
use Rattle.deadline.specs.Deadline.{decision_number}
use Rattle.deadline.specs.declared.RefreshDeadlineDecision.{RefreshDeadlineDecision}
use Rattle.deadline.specs.declared.RefreshDeadlineDecision.TheVariants.{PriorExpired, RequestedDeadlineInvalid, DeadlineRegressed, Apply}
use Rattle.deadline.proofs as the

-- the decision of a number
decision : ℕ → RefreshDeadlineDecision
decision n = cond (eqb n 0) PriorExpired (cond (eqb n 1) RequestedDeadlineInvalid (cond (eqb n 2) DeadlineRegressed Apply))

back : (d : RefreshDeadlineDecision) → decision (decision_number d) ≡ d
unfolding decision
back PriorExpired = refl
back RequestedDeadlineInvalid = refl
back DeadlineRegressed = refl
back Apply = refl

pub decision-injective : (d e : RefreshDeadlineDecision) → decision_number d ≡ decision_number e → d ≡ e
decision-injective d e h = sym (back d) ∙ ap decision h ∙ back e

pub evaluate-refresh-deadlines-determined : Determined the.evaluate_refresh_deadlines.Kinds.ps the.evaluate_refresh_deadlines.Kinds.r the.evaluate_refresh_deadlines.Reads.Learnt
evaluate-refresh-deadlines-determined κs a x y u v = as-numbered decision_number decision-injective x y

pub number-determined : Determined the.RefreshDeadlineDecision.number.Kinds.ps the.RefreshDeadlineDecision.number.Kinds.r the.RefreshDeadlineDecision.number.Reads.Learnt
number-determined κs a x y u v = as-told
