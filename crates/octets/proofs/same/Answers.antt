-- `same`: the octets that lie inside both slices are compared, and the others have to be zero. Assumes nothing.
use Rattle.octets.specs.Words.{◌≡◌, false, true, eqb, take, drop}
use Rattle.octets.proofs.Tools.{sym, ap, ◌∙◌, not-true, not-false}
use Rattle.octets.specs.Octets.{all_zero}
use Rattle.octets.proofs.PartsLaws.{take-rest}
use Rattle.octets.proofs.PaddedLaws.{same_inside}
use Rattle.std.specs.Cmp.Lexicographic.{pointwise}
use Rattle.octets.proofs.same.Goals as goal

pub returns-then-ne : goal.returns-then-ne
returns-then-ne c =
    let a = c.args in
    let k = c.min-k.result in
    let differ : pointwise eqb (take k c.part-x.result.now) (take k c.part-y.result.now) ≡ false = not-true _ (sym c.ne.ensures ∙ c.if-ne.true) in
    rw (same_inside a.a.now a.b.now _ _ a.i a.j a.n k c.part-x.ensures c.part-y.ensures c.min-k.ensures, differ)

pub returns : goal.returns
returns c =
    let a = c.args in
    let k = c.min-k.result in
    let equal : pointwise eqb (take k c.part-x.result.now) (take k c.part-y.result.now) ≡ true = not-false _ (sym c.ne.ensures ∙ c.if-ne.false) in
    let left : c.are_zero.result ≡ all_zero (drop k c.part-x.result.now) = c.are_zero.ensures ∙ ap all_zero (take-rest c.part-x.result.now k) in
    let right : c.are_zero-2.result ≡ all_zero (drop k c.part-y.result.now) = c.are_zero-2.ensures ∙ ap all_zero (take-rest c.part-y.result.now k) in
    rw (left, right, same_inside a.a.now a.b.now _ _ a.i a.j a.n k c.part-x.ensures c.part-y.ensures c.min-k.ensures, equal)
