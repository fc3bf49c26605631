-- `read`: under flag 0 forty octets of zero are six fields of zeros. Assumes nothing.
use Rattle.octets.proofs.Tools.{refl, sym, ◌∙◌, eq-eqb}
use Rattle.octets.proofs.Choices.{and-true}
use Rattle.codec.proofs.CodecLaws.{built-done, built-refused}
use Rattle.inspection.proofs.PartLaws.{zero-entry}
use Rattle.inspection.proofs.inspected.read.Goals as goal

pub returns-then-is_zero_run : goal.returns-then-is_zero_run
returns-then-is_zero_run c =
    let none = eq-eqb _ _ c.if-flag-ne0.false in
    built-done refl (simp (none, and-true) (sym (zero-entry c.args.s.now) ∙ sym c.is_zero_run.ensures ∙ c.if-is_zero_run.true)) (refl, simp none)

pub returns-else-is_zero_run : goal.returns-else-is_zero_run
returns-else-is_zero_run c =
    let none = eq-eqb _ _ c.if-flag-ne0.false in
    built-refused refl (simp (none, and-true) (sym (zero-entry c.args.s.now) ∙ sym c.is_zero_run.ensures ∙ c.if-is_zero_run.false)) (refl, refl)
