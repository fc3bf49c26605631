-- The outcome and its digit are what the contracts say, and no other: of each there is one. A digit tells its outcome, since the three are
-- different numbers. Assumes nothing.
use Rattle.octets.specs.Words.{◌≡◌}
use Rattle.octets.specs.Determined.{Determined}
use Rattle.octets.proofs.Tools.{refl, arith}
use Rattle.octets.proofs.UniqueLaws.{as-told}
use Rattle.program.specs.declared.Outcome.{Outcome}
use Rattle.program.specs.declared.Outcome.TheVariants.{Answered, TurnedDown, Failed}
use Rattle.program.specs.Status.{digit_of}
use Rattle.program.proofs as the

pub digit-injective : (a b : Outcome) → digit_of a ≡ digit_of b → a ≡ b
digit-injective Answered Answered h = refl
digit-injective Answered TurnedDown h = absurd (omega arith)
digit-injective Answered Failed h = absurd (omega arith)
digit-injective TurnedDown Answered h = absurd (omega arith)
digit-injective TurnedDown TurnedDown h = refl
digit-injective TurnedDown Failed h = absurd (omega arith)
digit-injective Failed Answered h = absurd (omega arith)
digit-injective Failed TurnedDown h = absurd (omega arith)
digit-injective Failed Failed h = refl

pub digit-determined : Determined the.Outcome.digit.Kinds.ps the.Outcome.digit.Kinds.r the.Outcome.digit.Reads.Learnt
digit-determined κs a x y u v = as-told

pub of-whole-determined : Determined the.Outcome.of_whole.Kinds.ps the.Outcome.of_whole.Kinds.r the.Outcome.of_whole.Reads.Learnt
of-whole-determined κs a x y u v = as-told

pub complain-determined : Determined the.complain.Kinds.ps the.complain.Kinds.r the.complain.Reads.Learnt
complain-determined κs a x y u v = as-told

pub outcome-of-stopped-determined : Determined the.OutcomeFromStopped.from.Kinds.ps the.OutcomeFromStopped.from.Kinds.r the.OutcomeFromStopped.from.Reads.Learnt
outcome-of-stopped-determined κs a x y u v = as-told
