-- `ipv6`: past its tests the answer is the walk's. The check finds this alone; it is written so that a wrong rule is refused where it is
-- wrong, and not where a search gives up. Assumes nothing.
use Rattle.octets.specs.Words.{ℕ, ◌+◌, ◌≡◌}
use Rattle.octets.proofs.Tools.{rules, arith, ne_eqb, le-ltb}
use Rattle.packet.specs.Reading.{Disposition, Answer, ipv6_head}
use Rattle.packet.proofs.ipv6.Goals as goal

-- an answer from its parts, counted from none
answered : (r : Answer) (d : Disposition) (h : ℕ) → d ≡ r.disposition → h ≡ 0 + r.headers → record { disposition = d; headers = h } ≡ r
answered r d h p q = let q' : h ≡ r.headers = omega arith in λ i. record { disposition = p i; headers = q' i }

pub returns : goal.returns
unfolding ipv6_head
returns c =
    simp (
      le-ltb _ _ c.if-len-lt-IPV6_HEADER_LEN.false,
      ← c.same_ipv6.ensures,
      c.if-not-same_ipv6.false,
      ← c.get_be-payload.ensures,
      ne_eqb c.get_be-payload.result 0 (search rules),
      le-ltb _ _ c.if-len-end.false,
      ← c.get_u8.ensures,
    ) (answered _ _ _ c.walk-disposition.ensures.disposition c.walk-disposition.ensures.headers)
