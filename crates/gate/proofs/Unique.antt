-- The answer of each public function is its contract's alone. The gate's contract gives the slot and the count, and no two verdicts
-- have one slot. Assumes nothing.
use Rattle.octets.specs.Words.{◌≡◌}
use Rattle.octets.proofs.Tools.{ap}
use Rattle.octets.proofs.UniqueLaws.{as-told, as-numbered}
use Rattle.octets.specs.Determined.{Determined}
use Rattle.verdict.proofs.Unique.{slot-injective}
use Rattle.gate.specs.Gate.{answer_of}
use Rattle.gate.specs.declared.GateAnswer.{GateAnswer}
use Rattle.gate.proofs as the

pub matches-determined : Determined the.Socket.matches.Kinds.ps the.Socket.matches.Kinds.r the.Socket.matches.Reads.Learnt
matches-determined κs a x y u v = as-told

pub answer-injective : (x y : GateAnswer) → answer_of x ≡ answer_of y → x ≡ y
answer-injective x y e =
    let v : x.verdict ≡ y.verdict = slot-injective x.verdict y.verdict (ap (λ r. r.slot) e) in
    λ i. record { verdict = v i; headers = (e i).headers }

pub gate-determined : Determined the.gate.Kinds.ps the.gate.Kinds.r the.gate.Reads.Learnt
gate-determined κs a x y u v = as-numbered answer_of answer-injective x y
