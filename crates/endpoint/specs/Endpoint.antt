-- Document 01, 'Endpoint rules': which addresses and ports may be protected, and when a source matches. Assumes nothing.
use Rattle.std.specs.Prelude.{ℕ, ◌/◌, Bool, true, cond, not, ◌&&◌, ◌||◌, List, ◌++◌, get_or, replicate, eqb, ltb, Result, Ok, Err}
use Rattle.octets.specs.Octets.{octets_at, all_zero, same_octets}
use Rattle.endpoint.specs.declared.ProtectedEndpoint.{ProtectedEndpoint}
use Rattle.codec.specs.declared.Refusal.{Refusal}
use Rattle.codec.specs.declared.Refusal.TheVariants.{BrokenRule}

-- 0.0.0.0, and a first byte of 224 or more (multicast, reserved and broadcast), are refused
unfoldable pub usable_ipv4 : List ℕ → Bool
usable_ipv4 a = not (all_zero (octets_at a 0 4)) && ltb (get_or a 0 0) 224

-- fe80::/10: the first ten bits are 1111 1110 10
abbrev pub link_local : List ℕ → Bool
link_local a = eqb (get_or a 0 0) 0xfe && eqb (get_or a 1 0 / 64) 2

-- ::ffff:0:0/96: ten zero bytes followed by ff ff
abbrev pub ipv4_mapped : List ℕ → Bool
ipv4_mapped a = all_zero (octets_at a 0 10) && (eqb (get_or a 10 0) 0xff && eqb (get_or a 11 0) 0xff)

-- all zero, a first byte of ff (multicast), link-local and IPv4-mapped addresses are refused
unfoldable pub usable_ipv6 : List ℕ → Bool
usable_ipv6 a = not (all_zero (octets_at a 0 16) || (eqb (get_or a 0 0) 0xff || (link_local a || ipv4_mapped a)))

-- "Port 0 is refused."
abbrev pub port_usable : ℕ → Bool
port_usable port = not (eqb port 0)

-- there is no third family
abbrev pub family_listed : ℕ → Bool
family_listed family = eqb family 4 || eqb family 6

-- an address may be protected by the rule of its family; of a family that is not listed nothing more is asked
unfoldable pub address_usable : ℕ → List ℕ → Bool
address_usable family a = cond (eqb family 4) (usable_ipv4 a) (cond (eqb family 6) (usable_ipv6 a) true)

-- "An IPv4 endpoint value whose spare address bytes are not zero is unsound."
unfoldable pub spare_zero : ℕ → List ℕ → Bool
spare_zero family a = cond (eqb family 4) (all_zero (octets_at a 4 12)) true

-- an endpoint value is sound
unfoldable pub sound_endpoint : ProtectedEndpoint → Bool
sound_endpoint e =
    port_usable e.port && (family_listed e.family && (address_usable e.family e.address && spare_zero e.family e.address))

-- the all-zero record, which stands beside the number of a refusal (01, 'Numbers given back')
abbrev pub blank : ProtectedEndpoint
blank = record { family = 0; address = replicate 16 0; port = 0 }

-- what a constructor answers: the endpoint, or the refusal whose number is 2
unfoldable pub made : ProtectedEndpoint → Result ProtectedEndpoint Refusal
made e = cond (sound_endpoint e) (Ok e) (Err BrokenRule)

-- an IPv4 endpoint has its address in the first four bytes; the spare bytes are zero
abbrev pub ipv4_of : List ℕ → ℕ → ProtectedEndpoint
ipv4_of a p = record { family = 4; address = octets_at a 0 4 ++ replicate 12 0; port = p }

abbrev pub ipv6_of : List ℕ → ℕ → ProtectedEndpoint
ipv6_of a p = record { family = 6; address = a; port = p }

-- a source of the endpoint's own family with its address, of so many octets, and its port; spare bytes are ignored, and port 0 is compared
-- like any other
unfoldable pub matches : ℕ → ℕ → ProtectedEndpoint → List ℕ → ℕ → Bool
matches family n e a p = eqb e.family family && (eqb e.port p && same_octets (octets_at e.address 0 n) (octets_at a 0 n))

abbrev pub matches_ipv4 : ProtectedEndpoint → List ℕ → ℕ → Bool
matches_ipv4 = matches 4 4

abbrev pub matches_ipv6 : ProtectedEndpoint → List ℕ → ℕ → Bool
matches_ipv6 = matches 6 16
