-- `put_lines`: the lines of the feed at the cursor are owed, and each packet leaves fewer. Assumes nothing.
use Rattle.octets.specs.Words.{◌-◌, ◌≤◌, length}
use Rattle.octets.proofs.Tools.{ap, arith}
use Rattle.text.specs.Text.{last_place}
use Rattle.bundle.specs.Feed.{beginning}
use Rattle.listing.specs.Listing.{ends_well, last_line, lines_by, verdict_line}
use Rattle.bundle.proofs.FrameLaws.{octets-part}
use Rattle.listing.proofs.ListingLaws.{go-start, told-inside, told-fewer, go-line, go-last, last-ending, judged}
use Rattle.listing.proofs.put_lines.Goals as goal

pub loop-after-init : goal.loop-after-init
loop-after-init c =
    let a = c.args in
    let held : length a.table.now ≤ last_place = omega arith in
    let fits : length a.out.now ≤ last_place = omega arith in
    rw c.start-cursor.ensures (go-start verdict_line a.input.now a.table.now a.out.now c.requires held fits)

pub overflow_sub-from : goal.overflow_sub-from
overflow_sub-from c = (told-inside (record { next = c.next_packet.ensures }) c.in-Packet.is).0

pub slice_bounds-judge-count : goal.slice_bounds-judge-count
slice_bounds-judge-count c = omega (arith, told-inside (record { next = c.next_packet.ensures }) c.in-Packet.is)

pub slice_bounds-judge-start : goal.slice_bounds-judge-start
slice_bounds-judge-start c = omega (arith, told-inside (record { next = c.next_packet.ensures }) c.in-Packet.is)

pub slice_bounds-judge-end : goal.slice_bounds-judge-end
slice_bounds-judge-end c = omega (arith, told-inside (record { next = c.next_packet.ensures }) c.in-Packet.is)

pub overflow_add-ordinal : goal.overflow_add-ordinal
overflow_add-ordinal c = omega (arith, told-fewer (record { next = c.next_packet.ensures }) c.in-Packet.is, c.loop-after.invariant.count)

pub loop-after-smaller : goal.loop-after-smaller
loop-after-smaller c = told-fewer (record { next = c.next_packet.ensures }) c.in-Packet.is

pub loop-after-preserved : goal.loop-after-preserved
loop-after-preserved c =
    let len = c.in-Packet.len in
    let end = c.in-Packet.after.at in
    let inside = told-inside (record { next = c.next_packet.ensures }) c.in-Packet.is in
    let part = octets-part c.args.input.now (end - len) len (end - (end - len)) (omega arith) (omega arith) in
    go-line (record { next = c.next_packet.ensures }) c.loop-after.invariant c.in-Packet.is c.next_packet.auto.table
    (judged _ c.judge-answer.result _ _ _ c.judge-answer.ensures part c.put_line-to.ensures)

pub returns-in-Ended : goal.returns-in-Ended
unfolding last_line lines_by beginning ends_well
returns-in-Ended c =
    record {
      wrote = go-last (record { next = c.next_packet.ensures }) c.loop-after.invariant c.in-Ended.is c.put_numbered-length.ensures;
      whole_value = ap ends_well (last-ending (record { next = c.next_packet.ensures }) c.loop-after.invariant c.in-Ended.is);
    }

pub returns-in-Bad : goal.returns-in-Bad
unfolding last_line lines_by beginning ends_well
returns-in-Bad c =
    record {
      wrote = go-last (record { next = c.next_packet.ensures }) c.loop-after.invariant c.in-Bad.is c.put_numbered-length-in-Bad.ensures;
      whole_value = ap ends_well (last-ending (record { next = c.next_packet.ensures }) c.loop-after.invariant c.in-Bad.is);
    }
