-- `find_record`: a record of the i-th pair is found, or both are passed. Assumes nothing.
use Rattle.octets.specs.Words.{◌+◌, ◌*◌, ◌≡◌}
use Rattle.octets.proofs.Tools.{refl, ◌∙◌, arith}
use Rattle.table.proofs.TableLaws.{found_here, found-on, found-is, found_first}
use Rattle.table.proofs.find_record.Goals as goal

pub returns-then-is_under : goal.returns-then-is_under
returns-then-is_under c =
    found_first c.loop-i.invariant (found-is (found_here _ _ _ _ _ _ refl (omega arith) c.is_under.ensures c.if-is_under.true) refl refl)

pub returns-then-is_under-2 : goal.returns-then-is_under-2
returns-then-is_under-2 c =
    let a = c.args in
    let first = found-on _ _ a.table.now (c.loop-i.i * 80) (c.loop-i.i * 80 + 40) _ refl (omega arith) c.is_under.ensures c.if-is_under.false in
    found_first (c.loop-i.invariant ∙ first) (found-is (found_here _ _ _ _ _ _ (omega arith) (omega arith) c.is_under-in-loop-i.ensures c.if-is_under-2.true) refl refl)

pub loop-i-preserved : goal.loop-i-preserved
loop-i-preserved c =
    let a = c.args in
    let more : c.loop-i.i * 80 + 80 ≡ (c.loop-i.i + 1) * 80 = omega arith in
    let first = found-on _ _ a.table.now (c.loop-i.i * 80) (c.loop-i.i * 80 + 40) _ refl (omega arith) c.is_under.ensures c.if-is_under.false in
    let second = found-on _ _ a.table.now (c.loop-i.i * 80 + 40) (c.loop-i.i * 80 + 80) _ (omega arith) (omega arith) c.is_under-in-loop-i.ensures c.if-is_under-2.false in
    rw more at (c.loop-i.invariant ∙ first ∙ second)

pub find_last-requires : goal.find_last-requires
find_last-requires c = (omega arith, omega arith)
