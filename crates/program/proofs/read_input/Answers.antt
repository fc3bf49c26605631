-- `read_input`: past the test the space has room for the limit and one byte more. Assumes nothing.
use Rattle.octets.specs.Words.{◌+◌}
use Rattle.octets.proofs.Tools.{sym, arith}
use Rattle.std.proofs.lemmas.List.{length-take-le}
use Rattle.program.proofs.read_input.Goals as goal

pub slice_bounds-fill-end : goal.slice_bounds-fill-end
slice_bounds-fill-end g c = sym (length-take-le (c.args.limit + 1) c.args.space.now (omega arith))
