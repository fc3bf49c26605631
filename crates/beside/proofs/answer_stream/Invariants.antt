-- `answer_stream`: at each block what is gathered leaves room for a longest answer. Assumes nothing.
use Rattle.octets.specs.Words.{◌≤◌}
use Rattle.beside.proofs.answer_stream.Given as goal

abbrev pub invariant-loop : goal.invariant-loop
invariant-loop g l = l.answers.used ≤ 65024
