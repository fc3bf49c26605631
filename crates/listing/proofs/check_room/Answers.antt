-- `check_room`: no listing is longer than the longest; else it is measured. Assumes nothing.
use Rattle.octets.specs.Words.{◌<◌, ◌≤◌, ◌≡◌, length}
use Rattle.octets.proofs.Tools.{◌∙◌, arith, le-leb, lt-leb}
use Rattle.text.proofs.TextLaws.{measures}
use Rattle.listing.specs.Listing.{listing, room_for}
use Rattle.listing.proofs.Bound.{no_longer}
use Rattle.listing.proofs.check_room.Goals as goal

pub returns-then-room-ge-MAX_LISTING : goal.returns-then-room-ge-MAX_LISTING
unfolding room_for
returns-then-room-ge-MAX_LISTING c =
    let a = c.args in
    let room : length (listing a.input.now) ≤ a.room = omega (arith, no_longer a.input.now) in
    rw (le-leb _ _ room)

pub returns-then-room-listed : goal.returns-then-room-listed
unfolding room_for
returns-then-room-listed c =
    let s = c.args.input.now in
    let long : c.put_listing-listed.result.length ≡ length (listing s) = c.put_listing-listed.ensures.wrote.past ∙ measures _ (omega (arith, no_longer s)) in
    let none : c.args.room < length (listing s) = omega arith in
    rw (lt-leb _ _ none)

pub returns : goal.returns
unfolding room_for
returns c =
    let s = c.args.input.now in
    let long : c.put_listing-listed.result.length ≡ length (listing s) = c.put_listing-listed.ensures.wrote.past ∙ measures _ (omega (arith, no_longer s)) in
    let room : length (listing s) ≤ c.args.room = omega arith in
    rw (le-leb _ _ room)
