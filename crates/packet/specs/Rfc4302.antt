-- RFC 4302, section 2.2: the Authentication Header's second byte counts 4-byte words, less 2. Assumes nothing.
use Rattle.std.specs.Prelude.{ℕ, ◌+◌, ◌*◌, List}
use Rattle.packet.specs.Rfc8200.{length_byte}

abbrev pub authentication_length : List ℕ → ℕ → ℕ
authentication_length s c = 4 * (length_byte s c + 2)
