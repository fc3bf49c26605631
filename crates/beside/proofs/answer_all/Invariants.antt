-- `answer_all`: at each query what is gathered leaves room for a longest answer. Assumes nothing.
use Rattle.octets.specs.Words.{◌≤◌}
use Rattle.beside.proofs.answer_all.Given as goal

abbrev pub invariant-loop-query : goal.invariant-loop-query
invariant-loop-query l =
    (goal.iterator-loop-query).can_next l.query-iterator ×
    ((goal.iterator-loop-query).is_finite l.query-iterator × (l.out.used ≤ 65024))
