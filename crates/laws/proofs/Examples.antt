-- Document 01's examples hold: the checker computes the list from the definitions of four crates. Assumes nothing.
use Rattle.octets.proofs.Tools.{refl}
use Rattle.octets.specs.Octets.{octets_at, le, be, same_octets}
use Rattle.codec.specs.Codec.{decode_number, decode_value}
use Rattle.deadline.specs.Deadline.{refresh_decision}
use Rattle.authority.specs.Mutation.{claim_fits}
use Rattle.authority.specs.Current.{current_listed, token_fits, cookie_fits}
use Rattle.packet.specs.Reading.{sort_of, udp_of, pass_of, counted_of, fragment_of, step_of, walk_of, ipv4_head, ipv6_head, known, classify_of}
use Rattle.packet.specs.Example.{endpoint4500, A}
use Rattle.laws.specs.Examples.{examples, holds, all, ExamplesHold}

pub examples-hold : ExamplesHold
unfolding all holds examples endpoint4500 A octets_at le be same_octets decode_number decode_value refresh_decision claim_fits current_listed token_fits cookie_fits sort_of udp_of pass_of counted_of fragment_of step_of walk_of ipv4_head ipv6_head known classify_of
examples-hold = refl
