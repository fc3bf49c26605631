-- RFC 8200: the fixed IPv6 header (section 3) and the extension headers (section 4), by their figures. Assumes nothing.
use Rattle.std.specs.Prelude.{ℕ, ◌+◌, ◌*◌, List}
use Rattle.octets.specs.Octets.{octets_at, le, be}

abbrev pub payload_length : List ℕ → ℕ
payload_length s = be (octets_at s 4 2)

abbrev pub source : List ℕ → List ℕ
source s = octets_at s 8 16

-- where the packet ends: the payload follows the fixed header of 40 bytes
abbrev pub end : List ℕ → ℕ
end s = 40 + payload_length s

-- the value that names the next header: byte 6 of the fixed header, the first of an extension header
abbrev pub next : List ℕ → ℕ → ℕ
next s c = le (octets_at s c 1)

-- the second byte of an extension header at c counts 8-byte units, the first not counted
abbrev pub length_byte : List ℕ → ℕ → ℕ
length_byte s c = le (octets_at s (c + 1) 1)

abbrev pub options_length : List ℕ → ℕ → ℕ
options_length s c = 8 * (length_byte s c + 1)

-- the Fragment header (4.5) has 8 bytes, with offset, two reserved bits and M in bytes 2 and 3
abbrev pub fragment_word : List ℕ → ℕ → ℕ
fragment_word s c = be (octets_at s (c + 2) 2)
