-- `array_at`: the octets inside are a part of the slice. Assumes nothing.
use Rattle.octets.specs.Words.{◌+◌, ◌-◌, ◌≡◌}
use Rattle.octets.proofs.Tools.{sym, ◌∙◌, arith, leb-true}
use Rattle.octets.proofs.PartsLaws.{octets-inside}
use Rattle.octets.proofs.array_at.Goals as goal

pub returns : goal.returns
returns g c =
    let a = c.args in
    let n : a.at + g.row.N - a.at ≡ g.row.N = omega arith in
    rw (c.in-Some.ensures.cases.same, n) (sym (octets-inside a.s.now a.at g.row.N (leb-true _ _ (sym c.lies_inside.ensures ∙ c.if-lies_inside.true))))
