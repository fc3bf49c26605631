-- Document 01's case, computed: the listing of its nine frames is its five lines. So are the listings of the bundles at the edges.
-- Assumes nothing.
use Rattle.octets.proofs.Tools.{refl}
use Rattle.octets.specs.Octets.{octets_at, le, be, le_bytes, be_bytes, all_zero, same_octets}
use Rattle.codec.specs.Codec.{decode_number, decode_value}
use Rattle.endpoint.specs.Endpoint.{usable_ipv4, usable_ipv6, address_usable, spare_zero}
use Rattle.config.specs.Config.{capacity_fits}
use Rattle.authority.specs.Current.{current_listed, token_fits, cookie_fits}
use Rattle.records.specs.Entry.{state_listed, deadline_fits, epoch_fits}
use Rattle.packet.specs.Reading.{sort_of, udp_of, pass_of, counted_of, fragment_of, step_of as sorted, walk_of, ipv4_head, ipv6_head, known, classify_of}
use Rattle.packet.specs.Example.{A}
use Rattle.text.specs.Text.{decimal_in}
use Rattle.table.specs.Table.{admissible, records_in, records, is_under, under, first_of}
use Rattle.gate.specs.Gate.{view_of, rules, answering, same_address, matches, headers_of}
use Rattle.bundle.specs.Feed.{onward, read_in, read}
use Rattle.bundle.specs.Frames.{exactly, frame_of, frame_at, call_of, step_of, feed_at, bundle_of}
use Rattle.listing.specs.Listing.{name_of, slot_text, line, last_line, lines_by, verdict_line, listing}
use Rattle.laws.specs.Bundles.{configured, published, recorded, case, CaseListed, edges, EdgesListed}

pub case-listed : CaseListed
unfolding case configured published recorded A octets_at le be le_bytes be_bytes all_zero same_octets decode_number decode_value usable_ipv4 usable_ipv6 capacity_fits address_usable spare_zero current_listed token_fits cookie_fits state_listed deadline_fits epoch_fits sort_of udp_of pass_of counted_of fragment_of sorted walk_of ipv4_head ipv6_head known classify_of admissible records_in records is_under under first_of view_of rules answering same_address matches headers_of onward read_in read exactly frame_of frame_at call_of step_of feed_at bundle_of decimal_in name_of slot_text line last_line lines_by verdict_line listing
case-listed = refl

pub edges-listed : EdgesListed
unfolding edges configured octets_at le be le_bytes be_bytes all_zero same_octets decode_number decode_value usable_ipv4 usable_ipv6 capacity_fits address_usable spare_zero current_listed token_fits cookie_fits state_listed deadline_fits epoch_fits sort_of udp_of pass_of counted_of fragment_of sorted walk_of ipv4_head ipv6_head known classify_of admissible records_in records is_under under first_of view_of rules answering same_address matches headers_of onward read_in read exactly frame_of frame_at call_of step_of feed_at bundle_of decimal_in name_of slot_text line last_line lines_by verdict_line listing
edges-listed = refl
