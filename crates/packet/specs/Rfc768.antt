-- RFC 768: the UDP header, 8 bytes, has the source port first; UDP is protocol 17. Assumes nothing.
use Rattle.std.specs.Prelude.{ℕ, List}
use Rattle.octets.specs.Octets.{octets_at, be}

abbrev pub source_port : List ℕ → ℕ → ℕ
source_port s c = be (octets_at s c 2)
