-- The examples of `specs/Examples.antt`: lists of calls under one statement each, which the checker computes. Assumes nothing.
use Rattle.std.specs.Prelude.{Option, Some}
use Rattle.octets.specs.Words.{ℕ, ◌≡◌}
use Rattle.octets.proofs.Tools.{refl, ap, ◌∙◌, arith}
use Rattle.octets.specs.Octets.{octets_at, le, be, le_bytes, be_bytes, all_zero, same_octets}
use Rattle.octets.specs.Lists.{bytes_at, inside}
use Rattle.codec.specs.Codec.{decode_number, decode_value}
use Rattle.endpoint.specs.Endpoint.{usable_ipv4, usable_ipv6, address_usable, spare_zero}
use Rattle.config.specs.Config.{capacity_fits}
use Rattle.authority.specs.Current.{current_listed, token_fits, cookie_fits}
use Rattle.records.specs.Entry.{state_listed, deadline_fits, epoch_fits}
use Rattle.packet.specs.Reading.{sort_of, udp_of, pass_of, counted_of, fragment_of, step_of, walk_of, ipv4_head, ipv6_head, known, classify_of}
use Rattle.packet.specs.Example.{endpoint4500, A}
use Rattle.isolation.specs.Places.{udp_places, named}
use Rattle.table.specs.Table.{admissible, records_in, records, is_under, under, first_of}
use Rattle.gate.specs.Gate.{view_of, rules, answering, same_address, matches, headers_of, gate_of}
use Rattle.laws.specs.Calls.{configured, open9, active9, unbound, witnesses, bound, loopback, configured6, B, later9, active8, edges, here, there, drops_all, EveryRuleAnswers, EdgesHold, SomeAreAlike, DropsAllIsIsolated, DropsAllIsRefused}

pub every-rule-answers : EveryRuleAnswers
unfolding witnesses endpoint4500 A configured open9 active9 unbound octets_at le be le_bytes be_bytes all_zero same_octets decode_number decode_value usable_ipv4 usable_ipv6 capacity_fits address_usable spare_zero current_listed token_fits cookie_fits state_listed deadline_fits epoch_fits sort_of udp_of pass_of counted_of fragment_of step_of walk_of ipv4_head ipv6_head known classify_of admissible records_in records is_under under first_of same_address matches view_of rules answering
every-rule-answers = refl

pub edges-hold : EdgesHold
unfolding edges bound loopback configured6 B later9 active8 endpoint4500 A configured open9 active9 unbound octets_at le be le_bytes be_bytes all_zero same_octets decode_number decode_value usable_ipv4 usable_ipv6 capacity_fits address_usable spare_zero current_listed token_fits cookie_fits state_listed deadline_fits epoch_fits sort_of udp_of pass_of counted_of fragment_of step_of walk_of ipv4_head ipv6_head known classify_of admissible records_in records is_under under first_of same_address matches view_of rules answering headers_of
edges-hold = refl

pub alike : SomeAreAlike
unfolding here there active8 endpoint4500 A configured open9 active9 unbound octets_at le be le_bytes be_bytes all_zero same_octets decode_number decode_value usable_ipv4 capacity_fits address_usable spare_zero current_listed token_fits cookie_fits bytes_at inside udp_places named ipv4_head admissible records_in records is_under under first_of
alike =
    record { config = refl; attachment = refl; socket = refl; cookie = refl; current = refl; time = refl; long = refl; agree = refl; first_table = refl; second_table = refl; found = refl }

pub drops-all-is-isolated : DropsAllIsIsolated
unfolding drops_all
drops-all-is-isolated a b h = refl

allowed : (gate_of here).slot ≡ Some 0
unfolding here endpoint4500 A configured open9 active9 unbound octets_at le be le_bytes be_bytes all_zero same_octets decode_number decode_value usable_ipv4 usable_ipv6 capacity_fits address_usable spare_zero current_listed token_fits cookie_fits state_listed deadline_fits epoch_fits sort_of udp_of pass_of counted_of fragment_of step_of walk_of ipv4_head ipv6_head known classify_of admissible records_in records is_under under first_of same_address matches view_of rules answering gate_of
allowed = refl

pub drops-all-is-refused : DropsAllIsRefused
unfolding drops_all
drops-all-is-refused h =
    let e : ◌≡◌ {A = Option ℕ} (Some 6) (Some 0) = ap (λ r. r.slot) (h here) ∙ allowed in
    let z : ◌≡◌ {A = ℕ} 6 0 = cc in
    omega arith
