-- `is_admissible`: the definition's two tests, in its order. Assumes nothing.
use Rattle.octets.specs.Words.{◌%◌, ◌≡◌, true, false, length, eqb}
use Rattle.octets.proofs.Tools.{eq-eqb, ne_eqb}
use Rattle.table.specs.Table.{admissible}
use Rattle.table.proofs.is_admissible.Goals as goal

pub returns-then-table-eq0 : goal.returns-then-table-eq0
unfolding admissible
returns-then-table-eq0 c =
    let whole : eqb (length c.args.table.now % 40) 0 ≡ true = eq-eqb _ _ c.if-table-eq0.true in
    rw whole

pub returns-else-table-eq0 : goal.returns-else-table-eq0
unfolding admissible
returns-else-table-eq0 c =
    let part : eqb (length c.args.table.now % 40) 0 ≡ false = ne_eqb _ _ c.if-table-eq0.false in
    rw part
