-- Document 01, 'Places named for demand 3': the places of a packet, read against an endpoint, that may matter. Assumes nothing.
use Rattle.std.specs.Prelude.{ℕ, zero, suc, ◌+◌, cond, List, [], ◌∷◌, ◌++◌, length, eqb, ltb}
use Rattle.octets.specs.Lists.{span, inside}
use Rattle.endpoint.specs.declared.ProtectedEndpoint.{ProtectedEndpoint}
use Rattle.packet.specs.Rfc791 as ip4
use Rattle.packet.specs.Rfc8200 as ip6
use Rattle.packet.specs.Reading.{follow, entered, by_class, sort_of, step_of, ipv4_head, ipv6_head}

-- at a header: the two port bytes if reached; of an extension header whose allowance and first room test hold, bytes 0 and 1,
-- or 0, 2 and 3 of a Fragment header
unfoldable pub udp_places : ℕ → ℕ → List ℕ
udp_places e c = cond (ltb e (c + 8)) [] (span c 2)

unfoldable pub step_places : ℕ → ℕ → ℕ → ℕ → List ℕ
step_places e a n c =
    by_class (sort_of n)
    (udp_places e c) []
    (entered [] e a c 2 (span c 2)) (entered [] e a c 2 (span c 2))
    (entered [] e a c 8 (c ∷ span (c + 2) 2)) []

unfoldable pub walk_places : List ℕ → ℕ → ℕ → ℕ → ℕ → ℕ → List ℕ
walk_places s port e zero n c = step_places e zero n c
walk_places s port e (suc a) n c = step_places e (suc a) n c ++ follow (λ _ _. []) (step_of s port e (suc a) n c) (walk_places s port e a)

-- past the fixed header, where reading comes to that
abbrev pub ipv4_rest : List ℕ → ProtectedEndpoint → List ℕ
ipv4_rest s p = cond (eqb p.family 4) (follow (λ _ _. []) (ipv4_head s p.address) (λ _ h. udp_places (ip4.total_length s) h)) []

abbrev pub ipv6_rest : List ℕ → ProtectedEndpoint → List ℕ
ipv6_rest s p = cond (eqb p.family 6) (follow (λ _ _. []) (ipv6_head s p.address) (walk_places s p.port (ip6.end s) 4)) []

-- byte 0; version 4: 2, 3, 6, 7, 9, 12-15; version 6: 4-6, 8-23; and those past the fixed header
unfoldable pub named : List ℕ → ProtectedEndpoint → List ℕ
named s p =
    span 0 1 ++
    cond (eqb (ip4.version s) 4) (span 2 2 ++ (span 6 2 ++ (span 9 1 ++ (span 12 4 ++ ipv4_rest s p))))
    (cond (eqb (ip4.version s) 6) (span 4 3 ++ (span 8 16 ++ ipv6_rest s p)) [])

abbrev pub places : List ℕ → ProtectedEndpoint → List ℕ
places s p = inside (length s) (named s p)
