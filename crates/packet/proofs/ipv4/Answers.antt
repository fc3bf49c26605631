-- `ipv4`: past the tests that it passed, the definition's next one decides, or the UDP header. The check finds these two alone; they are
-- written so that a wrong rule is refused where it is wrong, and not where a search gives up. Assumes nothing.
use Rattle.octets.proofs.Tools.{ap, eq-eqb, ne_eqb, le-ltb}
use Rattle.packet.specs.Reading.{ipv4_head, stop}
use Rattle.packet.proofs.ipv4.Goals as goal

pub returns-then-get_u8-ne-IPV4_PROTOCOL_UDP : goal.returns-then-get_u8-ne-IPV4_PROTOCOL_UDP
unfolding ipv4_head
returns-then-get_u8-ne-IPV4_PROTOCOL_UDP c =
    simp (
      le-ltb _ _ c.if-len-lt-IPV4_MIN_HEADER_LEN.false,
      ← c.get_u8.ensures,
      le-ltb _ _ c.if-size-lt-IPV4_MIN_HEADER_LEN.false,
      ← c.same_ipv4.ensures,
      c.if-not-same_ipv4.false,
      ← c.get_be-total.ensures,
      le-ltb _ _ c.if-total-size.false,
      le-ltb _ _ c.if-len-total.false,
      ← c.get_u8-2.ensures,
      ne_eqb _ _ c.if-get_u8-ne-IPV4_PROTOCOL_UDP.true,
    )

pub returns : goal.returns
unfolding ipv4_head
returns c =
    simp (
      le-ltb _ _ c.if-len-lt-IPV4_MIN_HEADER_LEN.false,
      ← c.get_u8.ensures,
      le-ltb _ _ c.if-size-lt-IPV4_MIN_HEADER_LEN.false,
      ← c.same_ipv4.ensures,
      c.if-not-same_ipv4.false,
      ← c.get_be-total.ensures,
      le-ltb _ _ c.if-total-size.false,
      le-ltb _ _ c.if-len-total.false,
      ← c.get_u8-2.ensures,
      eq-eqb _ _ c.if-get_u8-ne-IPV4_PROTOCOL_UDP.false,
      ← c.get_be.ensures,
      eq-eqb _ _ c.if-get_be-ne0.false,
    ) (ap (stop 0) c.udp.ensures)
