-- `put_line`: its parts one after the other, the name with a space on each side. Assumes nothing.
use Rattle.octets.specs.Words.{◌≤◌, length}
use Rattle.octets.proofs.Tools.{arith}
use Rattle.text.specs.Text.{last_place}
use Rattle.text.proofs.TextLaws.{then}
use Rattle.listing.specs.Listing.{line}
use Rattle.listing.proofs.lines.put_line.Goals as goal

pub returns : goal.returns
unfolding line
returns c =
    let a = c.args in
    let fits : length a.out.now ≤ last_place = omega arith in
    then fits (then fits (then fits (then fits (then fits c.put_decimal-to.ensures (rw c.spaced_name_of.ensures at c.put_text-to.ensures)) c.put_decimal-to-2.ensures) c.put_byte-to.ensures)
    (rw c.counter_slot-slot.ensures at c.put_slot-to.ensures)) c.put_byte.ensures
