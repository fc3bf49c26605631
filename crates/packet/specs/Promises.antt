-- What is claimed of reading a packet beside the contracts, from document 01. Each claim is proved in proofs/. Assumes nothing.
use Rattle.std.specs.Prelude.{ℕ, suc, ◌<◌, ◌≤◌, ◌≡◌, cond, List, [], ◌∷◌}
use Rattle.octets.specs.Lists.{among}
use Rattle.endpoint.specs.declared.ProtectedEndpoint.{ProtectedEndpoint}
use Rattle.packet.specs.Reading.{Disposition, settled, stop, sort_of, udp_of, walk_of, ipv4_of, ipv6_head, ipv6_of, classify_of}

-- ---- the count

-- "the number of extension headers passed, 0 to 4"
abbrev pub CountAtMost4 : Type 0
CountAtMost4 = (s : List ℕ) (p : ProtectedEndpoint) → (classify_of s p).headers ≤ 4

-- "IPv4 gives 0, as does every answer before the walk"
abbrev pub Ipv4Count : Type 0
Ipv4Count = (s : List ℕ) (p : ProtectedEndpoint) → (ipv4_of s p).headers ≡ 0

abbrev pub BeforeWalkCount : Type 0
BeforeWalkCount = (s : List ℕ) (p : ProtectedEndpoint) (c : ℕ) (d : Disposition) → ipv6_head s p.address ≡ settled c d → (ipv6_of s p).headers ≡ 0

-- "four extension headers and then UDP is good": UDP needs no allowance
abbrev pub UdpUncounted : Type 0
UdpUncounted = (s : List ℕ) (p : ProtectedEndpoint) (e a c : ℕ) → walk_of s p.port e a 17 c ≡ stop c (udp_of s p.port e c)

-- ---- the sorting

-- the values of 01's lines, a list to a class: port test, Unrelated, 8(n + 1), 4(n + 2), Fragment
unfoldable pub lines : List (List ℕ)
lines = (17 ∷ []) ∷ (6 ∷ 50 ∷ 58 ∷ 59 ∷ []) ∷ (0 ∷ 43 ∷ 60 ∷ []) ∷ (51 ∷ []) ∷ (44 ∷ []) ∷ []

-- the classes, from k on, of the lines that have the value n
unfoldable pub having : ℕ → ℕ → List (List ℕ) → List ℕ
having k n [] = []
having k n (l ∷ ls) = cond (among n l) (k ∷ having (suc k) n ls) (having (suc k) n ls)

-- "Any other", class 5, where no line has it
unfoldable pub or_other : List ℕ → List ℕ
or_other [] = 5 ∷ []
or_other (k ∷ ks) = k ∷ ks

-- each value is in one of the six lines, and in one only; the sorting gives that line's class
abbrev pub SortedOnce : Type 0
SortedOnce = (n : ℕ) → n < 256 → or_other (having 0 n lines) ≡ sort_of n ∷ []
