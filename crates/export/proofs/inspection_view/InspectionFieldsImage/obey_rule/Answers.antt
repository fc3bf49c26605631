-- `obey_rule`: with flag 0 the numbers in the place of the entry equal zeros. The laws on the function answer the rest. Assumes nothing.
use Rattle.octets.specs.Octets.{all_zero}
use Rattle.octets.specs.Words.{eqb, ◌≡◌, true}
use Rattle.octets.proofs.Tools.{rules}
use mathlib.Core.Bool.{and-true}
use Rattle.export.proofs.InspectionLaws.{without_entry, parts}
use Rattle.export.proofs.inspection_view.InspectionFieldsImage.obey_rule.Goals.{then-obey_rule, else-obey_rule}
use Rattle.export.proofs.inspection_view.InspectionFieldsImage.obey_rule.Goals as goal

pub returns-in-0 : goal.returns-in-0
unfolding all_zero
returns-in-0 c =
    let both : parts c.args.self ≡ true = elim c.if-obey_rule.branch [ then-obey_rule w ↦ search rules | else-obey_rule w ↦ search rules ] in
    rw (without_entry c.args.self c.in-0.is, both, c.eq.ensures, and-true (eqb c.args.self.value.control_epoch.0 0))
