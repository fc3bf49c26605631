-- The count: a walk passes at most as many headers as its allowance has, by induction on the allowance; what stops before it has passed
-- none. Assumes nothing.
use Rattle.octets.specs.Words.{ℕ, zero, suc, ◌≤◌, not, ◌||◌, List, length, eqb}
use Rattle.octets.proofs.Tools.{refl, arith}
use Rattle.octets.proofs.Choices.{cond-all}
use Rattle.endpoint.specs.declared.ProtectedEndpoint.{ProtectedEndpoint}
use Rattle.packet.specs.Rfc791.{version}
use Rattle.packet.specs.Reading.{Answer, Outcome, settled, onward, follow, stop, sort_of, step_of, walk_of, ipv4_head, ipv4_of, ipv6_head, ipv6_of, known, classify_of}
use Rattle.packet.specs.Promises.{CountAtMost4, Ipv4Count, BeforeWalkCount, UdpUncounted}
use Rattle.packet.proofs.Laws.{walk-count}

abbrev Within : ℕ → Answer → Type 0
Within n r = r.headers ≤ n

followed : (n : ℕ) (o : Outcome) (k : ℕ → ℕ → Answer) → ((m c : ℕ) → Within n (k m c)) → Within n (follow stop o k)
followed n (settled c d) k h = omega arith
followed n (onward m c) k h = h m c

pub ipv4-count : Ipv4Count
ipv4-count s p = let h : Within 0 (ipv4_of s p) = followed 0 (ipv4_head s p.address) _ (λ m c. omega arith) in omega arith

pub before-walk-count : BeforeWalkCount
before-walk-count s p c d e = rw e

pub udp-uncounted : UdpUncounted
unfolding walk_of step_of sort_of
udp-uncounted s p e zero c = refl
udp-uncounted s p e (suc a) c = refl

ipv6-count : (s : List ℕ) (p : ProtectedEndpoint) → (ipv6_of s p).headers ≤ 4
ipv6-count s p = followed 4 (ipv6_head s p.address) _ (walk-count s p.port _ 4)

pub count-at-most-4 : CountAtMost4
unfolding classify_of
count-at-most-4 s p =
    cond-all (Within 4) (not (known p.family) || eqb (length s) 0) (omega arith)
    (cond-all (Within 4) (eqb (version s) 4)
    (cond-all (Within 4) (eqb p.family 4) (omega (arith, ipv4-count s p)) (omega arith))
    (cond-all (Within 4) (eqb (version s) 6)
    (cond-all (Within 4) (eqb p.family 6) (ipv6-count s p) (omega arith))
    (omega arith)))
