-- `put_numbered`: the word, the number and the newline, one after the other. Assumes nothing.
use Rattle.octets.specs.Words.{◌≤◌, length}
use Rattle.octets.proofs.Tools.{arith}
use Rattle.text.specs.Text.{last_place}
use Rattle.text.proofs.TextLaws.{then}
use Rattle.text.proofs.put_numbered.Goals as goal

pub returns : goal.returns
returns c =
    let fits : length c.args.out.now ≤ last_place = omega arith in
    then fits (then fits c.put_text-number_at.ensures c.put_decimal-end_at.ensures) c.put_byte.ensures
