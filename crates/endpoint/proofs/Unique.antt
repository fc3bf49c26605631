-- The answer of each public function is its contract's alone: each contract is one equation whose right side is made of the
-- arguments. Assumes nothing.
use Rattle.octets.specs.Determined.{Determined}
use Rattle.octets.proofs.UniqueLaws.{as-told}
use Rattle.endpoint.proofs as the

pub blank-determined : Determined the.ProtectedEndpoint.blank.Kinds.ps the.ProtectedEndpoint.blank.Kinds.r the.ProtectedEndpoint.blank.Reads.Learnt
blank-determined κs a x y u v = as-told

pub is-sound-determined : Determined the.ProtectedEndpoint.is_sound.Kinds.ps the.ProtectedEndpoint.is_sound.Kinds.r the.ProtectedEndpoint.is_sound.Reads.Learnt
is-sound-determined κs a x y u v = as-told

pub ipv4-determined : Determined the.ProtectedEndpoint.ipv4.Kinds.ps the.ProtectedEndpoint.ipv4.Kinds.r the.ProtectedEndpoint.ipv4.Reads.Learnt
ipv4-determined κs a x y u v = as-told

pub ipv6-determined : Determined the.ProtectedEndpoint.ipv6.Kinds.ps the.ProtectedEndpoint.ipv6.Kinds.r the.ProtectedEndpoint.ipv6.Reads.Learnt
ipv6-determined κs a x y u v = as-told

pub port-determined : Determined the.ProtectedEndpoint.port.Kinds.ps the.ProtectedEndpoint.port.Kinds.r the.ProtectedEndpoint.port.Reads.Learnt
port-determined κs a x y u v = as-told

pub matches-ipv4-determined : Determined the.ProtectedEndpoint.matches_ipv4.Kinds.ps the.ProtectedEndpoint.matches_ipv4.Kinds.r the.ProtectedEndpoint.matches_ipv4.Reads.Learnt
matches-ipv4-determined κs a x y u v = as-told

pub matches-ipv6-determined : Determined the.ProtectedEndpoint.matches_ipv6.Kinds.ps the.ProtectedEndpoint.matches_ipv6.Kinds.r the.ProtectedEndpoint.matches_ipv6.Reads.Learnt
matches-ipv6-determined κs a x y u v = as-told
