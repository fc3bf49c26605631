-- `read`: the tests are the rule's, in its order, and a part's refusal is the whole's. Assumes nothing.
use Rattle.octets.proofs.Tools.{refl, rules}
use Rattle.codec.proofs.CodecLaws.{built-refused}
use Rattle.inspection.proofs.ReadLaws.{current-refused, mutation-refused, entry-refused, tail-refused, read-done}
use Rattle.inspection.proofs.FenceInspectionRecord.read.Goals as goal

pub returns-in_err-read_at : goal.returns-in_err-read_at
returns-in_err-read_at c =
    current-refused c.args.s.now c.get_head-head.ensures c.head_is_right.ensures c.if-not-head_is_right.false c.in_err-read_at.field-0.0 (search rules) c.in_err-read_at.ensures

pub returns-in_err-read_at-2 : goal.returns-in_err-read_at-2
returns-in_err-read_at-2 c =
    mutation-refused c.args.s.now c.get_head-head.ensures c.head_is_right.ensures c.if-not-head_is_right.false c.in_ok-read_at.ensures c.in_err-read_at-2.field-0.0 (search rules) c.in_err-read_at-2.ensures

pub returns-in_err-read : goal.returns-in_err-read
returns-in_err-read c =
    entry-refused c.args.s.now c.get_head-head.ensures c.head_is_right.ensures c.if-not-head_is_right.false c.in_ok-read_at.ensures c.in_ok-read_at-2.ensures
    c.in_err-read.field-0.0 (search rules) c.in_err-read.ensures

pub returns-then-is_zero_run : goal.returns-then-is_zero_run
returns-then-is_zero_run c =
    read-done c.args.s.now c.get_head-head.ensures c.head_is_right.ensures c.if-not-head_is_right.false c.in_ok-read_at.ensures c.in_ok-read_at-2.ensures c.in_ok-read.ensures
    c.is_zero_run.ensures c.if-is_zero_run.true

pub returns-else-is_zero_run : goal.returns-else-is_zero_run
returns-else-is_zero_run c =
    built-refused refl (tail-refused c.args.s.now c.get_head-head.ensures c.head_is_right.ensures c.if-not-head_is_right.false c.in_ok-read_at.ensures c.in_ok-read_at-2.ensures c.in_ok-read.ensures
    c.is_zero_run.ensures c.if-is_zero_run.false) (refl, refl)
