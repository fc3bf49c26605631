-- `find_last`: where less than a record is left there is none; else one is left, found there, or passed with less than a record after it.
-- Assumes nothing.
use Rattle.octets.specs.Words.{◌+◌}
use Rattle.octets.proofs.Tools.{refl, ◌∙◌, rules}
use native.Mathlib.Nat.{zero-add}
use Rattle.table.proofs.TableLaws.{found_here, found-on, found_none, found-is}
use Rattle.table.proofs.find_last.Goals as goal

pub returns-then-table-at-lt-LEN : goal.returns-then-table-at-lt-LEN
returns-then-table-at-lt-LEN c = found-is (found_none _ _ _ c.args.at (search rules)) refl (rw zero-add)

pub returns-then-is_under : goal.returns-then-is_under
returns-then-is_under c = found-is (found_here _ _ _ _ _ _ refl (search rules) c.is_under.ensures c.if-is_under.true) refl refl

pub returns : goal.returns
returns c =
    let a = c.args in
    found-is (found-on _ _ _ a.at _ _ refl (search rules) c.is_under.ensures c.if-is_under.false ∙ found_none _ _ a.table.now (a.at + 40) (search rules)) refl (rw zero-add)
