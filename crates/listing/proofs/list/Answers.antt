-- `list`: the listing has room and is written, or nothing is. Assumes nothing.
use Rattle.octets.specs.Words.{◌≤◌, length}
use Rattle.octets.proofs.Tools.{sym, ◌∙◌, arith}
use Rattle.text.specs.Text.{last_place}
use Rattle.listing.proofs.ListingLaws.{refused, done}
use Rattle.listing.proofs.list.Goals as goal

pub returns-in_err-check_room : goal.returns-in_err-check_room
returns-in_err-check_room c = refused _ _ c.from_residual.result c.from_residual.ensures.0 (sym c.check_room.ensures ∙ c.in_err-check_room.was)

pub returns : goal.returns
returns c =
    let fits : length c.args.out.now ≤ last_place = omega arith in
    done fits (sym c.check_room.ensures ∙ c.in_ok-check_room.was) c.put_listing.ensures.wrote c.put_listing.ensures.whole_value
