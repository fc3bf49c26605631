-- `are_zero`: the iterator stops at the first octet that is other than zero. Assumes nothing.
use Rattle.octets.specs.Words.{◌≡◌}
use Rattle.octets.proofs.Tools.{rules}
use Rattle.octets.proofs.PaddedLaws.{zero_cases}
use mathlib.Core.Logic.{◌≢◌}
use Rattle.std.proofs.Common.{tests}
use Rattle.std.proofs.lemmas.Iterator.{cases_from_all, YieldsList-from_slice}
use Rattle.octets.proofs.are_zero.Goals as goal

pub returns : goal.returns
returns c =
    zero_cases _ _
    (cases_from_all _ _ _ (λ x. x ≡ 0) (λ x. x ≢ 0) c.all.ensures.ran (YieldsList-from_slice c.args.octets.now cc) (λ x q k. search (rules, tests)) (λ x q k. search (rules, tests)))
