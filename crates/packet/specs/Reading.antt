-- Document 01, 'Reading a packet': its decisions, in its order. Assumes nothing.
use Rattle.std.specs.Prelude.{ℕ, zero, suc, ◌+◌, Bool, cond, not, ◌||◌, List, [], ◌∷◌, length, eqb, ltb}
use Rattle.octets.specs.Octets.{octets_at, same_octets}
use Rattle.octets.specs.Lists.{among}
use Rattle.endpoint.specs.declared.ProtectedEndpoint.{ProtectedEndpoint}
use Rattle.packet.specs.Rfc791 as ip4
use Rattle.packet.specs.Rfc768 as udp
use Rattle.packet.specs.Rfc8200 as ip6
use Rattle.packet.specs.Rfc4302 as ah

-- what a packet proves of its source: that it is the endpoint, that it is not, or neither
pub data Disposition : Type 0 where
  protected : Disposition
  unrelated : Disposition
  indeterminate : Disposition

-- an answer: the disposition, and the number of extension headers passed
pub record Answer : Type 0 where
  pub disposition : Disposition
  pub headers : ℕ

-- what a header comes to: reading stops at the place c with a disposition, or goes on to the next header's value and place
pub data Outcome : Type 0 where
  settled : (c : ℕ) (d : Disposition) → Outcome
  onward : (n c : ℕ) → Outcome

abbrev pub follow : {A : Type 0} → (ℕ → Disposition → A) → Outcome → (ℕ → ℕ → A) → A
follow f (settled c d) k = f c d
follow f (onward n c) k = k n c

-- the answer where reading stops at c, which is no part of it; and the answer after one header more
abbrev pub stop : ℕ → Disposition → Answer
stop c d = record { disposition = d; headers = 0 }

abbrev pub passed : Answer → Answer
passed r = record { disposition = r.disposition; headers = r.headers + 1 }

-- the sorting of the next-header value: 0 port test, 1 Unrelated, 2 length 8(n + 1), 3 length 4(n + 2), 4 Fragment, 5 any other
unfoldable pub sort_of : ℕ → ℕ
sort_of n =
    cond (eqb n 17) 0
    (cond (among n (6 ∷ 50 ∷ 58 ∷ 59 ∷ [])) 1
    (cond (among n (0 ∷ 43 ∷ 60 ∷ [])) 2
    (cond (eqb n 51) 3
    (cond (eqb n 44) 4 5))))

abbrev pub by_class : {A : Type 0} → ℕ → A → A → A → A → A → A → A
by_class k p u o w f x = cond (eqb k 0) p (cond (eqb k 1) u (cond (eqb k 2) o (cond (eqb k 3) w (cond (eqb k 4) f x))))

-- 17: the UDP header at c, in a packet that ends at e. c + 8 > e: Indeterminate; else the port at c decides
unfoldable pub udp_of : List ℕ → ℕ → ℕ → ℕ → Disposition
udp_of s port e c = cond (ltb e (c + 8)) indeterminate (cond (eqb (udp.source_port s c) port) protected unrelated)

-- an extension header at c, with allowance a, that has l bytes, of which r are looked at: no allowance, c + r > e, or the header
-- passing e: Indeterminate. A Fragment header's bytes 2 and 3 must both be zero as well
unfoldable pub pass_of : List ℕ → ℕ → ℕ → ℕ → Outcome
pass_of s e c l = cond (ltb e (c + l)) (settled c indeterminate) (onward (ip6.next s c) (c + l))

abbrev pub entered : {A : Type 0} → A → ℕ → ℕ → ℕ → ℕ → A → A
entered x e a c r y = cond (eqb a 0 || ltb e (c + r)) x y

unfoldable pub counted_of : List ℕ → ℕ → ℕ → ℕ → ℕ → Outcome
counted_of s e a c l = entered (settled c indeterminate) e a c 2 (pass_of s e c l)

unfoldable pub fragment_of : List ℕ → ℕ → ℕ → ℕ → Outcome
fragment_of s e a c = entered (settled c indeterminate) e a c 8 (cond (eqb (ip6.fragment_word s c) 0) (pass_of s e c 8) (settled c indeterminate))

-- the step at a header of value n
unfoldable pub step_of : List ℕ → ℕ → ℕ → ℕ → ℕ → ℕ → Outcome
step_of s port e a n c =
    by_class (sort_of n)
    (settled c (udp_of s port e c))
    (settled c unrelated)
    (counted_of s e a c (ip6.options_length s c))
    (counted_of s e a c (ah.authentication_length s c))
    (fragment_of s e a c)
    (settled c indeterminate)

-- the walk: after a header, the rest of the chain is read with an allowance one smaller; with none left no step goes on
unfoldable pub walk_of : List ℕ → ℕ → ℕ → ℕ → ℕ → ℕ → Answer
walk_of s port e zero n c = follow stop (step_of s port e zero n c) (λ _ c'. stop c' indeterminate)
walk_of s port e (suc a) n c = follow stop (step_of s port e (suc a) n c) (λ n' c'. passed (walk_of s port e a n' c'))

-- a test of the fixed header, and what the packet is where it holds
pub data Test : Type 0 where
  test : (holds : Bool) (d : Disposition) → Test

-- the first test that holds settles what the packet is; where none does, reading goes on to the header of value n at c
abbrev pub tested : List Test → ℕ → ℕ → Outcome
tested [] n c = onward n c
tested (test b d ∷ ts) n c = cond b (settled 0 d) (tested ts n c)

-- IPv4 (RFC 791), in order; at its end the UDP header stands at h and must end by t
abbrev pub ipv4_tests : List ℕ → List ℕ → List Test
ipv4_tests s address =
    test (ltb (length s) 20) indeterminate ∷
    test (ltb (ip4.header_length s) 20) indeterminate ∷
    test (not (same_octets (ip4.source s) (octets_at address 0 4))) unrelated ∷
    test (ltb (ip4.total_length s) (ip4.header_length s)) indeterminate ∷
    test (ltb (length s) (ip4.total_length s)) indeterminate ∷
    test (not (eqb (ip4.protocol s) 17)) unrelated ∷
    test (not (ip4.whole s)) indeterminate ∷ []

unfoldable pub ipv4_head : List ℕ → List ℕ → Outcome
ipv4_head s address = tested (ipv4_tests s address) 17 (ip4.header_length s)

abbrev pub ipv4_of : List ℕ → ProtectedEndpoint → Answer
ipv4_of s p = follow stop (ipv4_head s p.address) (λ _ h. stop h (udp_of s p.port (ip4.total_length s) h))

-- IPv6 (RFC 8200); the walk begins at 40 with an allowance of 4
abbrev pub ipv6_tests : List ℕ → List ℕ → List Test
ipv6_tests s address =
    test (ltb (length s) 40) indeterminate ∷
    test (not (same_octets (ip6.source s) (octets_at address 0 16))) unrelated ∷
    test (eqb (ip6.payload_length s) 0) indeterminate ∷
    test (ltb (length s) (ip6.end s)) indeterminate ∷ []

unfoldable pub ipv6_head : List ℕ → List ℕ → Outcome
ipv6_head s address = tested (ipv6_tests s address) (ip6.next s 6) 40

abbrev pub ipv6_of : List ℕ → ProtectedEndpoint → Answer
ipv6_of s p = follow stop (ipv6_head s p.address) (walk_of s p.port (ip6.end s) 4)

-- the whole: a family other than 4 or 6 gives Indeterminate for every packet; an endpoint of the other family, Unrelated
unfoldable pub known : ℕ → Bool
known f = eqb f 4 || eqb f 6

unfoldable pub classify_of : List ℕ → ProtectedEndpoint → Answer
classify_of s p =
    cond (not (known p.family) || eqb (length s) 0) (stop 0 indeterminate)
    (cond (eqb (ip4.version s) 4) (cond (eqb p.family 4) (ipv4_of s p) (stop 0 unrelated))
    (cond (eqb (ip4.version s) 6) (cond (eqb p.family 6) (ipv6_of s p) (stop 0 unrelated))
    (stop 0 indeterminate)))
