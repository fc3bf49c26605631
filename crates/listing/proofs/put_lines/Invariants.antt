-- `put_lines`: the lines of the feed at the cursor are owed, and each packet leaves fewer. Assumes nothing.
use Rattle.octets.specs.Words.{length}
use Rattle.bundle.specs.Cursor.{desk, desk_feed}
use Rattle.listing.specs.Listing.{verdict_line}
use Rattle.listing.proofs.ListingLaws.{Going}
use Rattle.listing.proofs.put_lines.Given as goal

abbrev pub invariant-loop-after : goal.invariant-loop-after
invariant-loop-after l = Going verdict_line l.input l.initial.table l.table l.initial.out l.out l.cursor l.ordinal l.to

abbrev pub decreases-loop-after : goal.decreases-loop-after
decreases-loop-after l = length (desk_feed l.input (desk l.cursor l.table)).calls
