-- RFC 791, section 3.1: the fields of the IPv4 header that matter here, each by its place in the figure. Assumes nothing.
use Rattle.std.specs.Prelude.{ℕ, ◌*◌, ◌/◌, ◌%◌, Bool, List, eqb}
use Rattle.std.specs.Int.Bits.{bit_and}
use Rattle.octets.specs.Octets.{octets_at, le, be}

-- Version: the high four bits of byte 0. RFC 8200, section 3, has its version there too
abbrev pub version : List ℕ → ℕ
version s = le (octets_at s 0 1) / 16

-- IHL: the low four bits, the header's length in words of four bytes
abbrev pub header_length : List ℕ → ℕ
header_length s = 4 * (le (octets_at s 0 1) % 16)

-- Total Length, of header and data
abbrev pub total_length : List ℕ → ℕ
total_length s = be (octets_at s 2 2)

-- Flags and Fragment Offset: of a packet that is whole, all bits but DF are zero
abbrev pub whole : List ℕ → Bool
whole s = eqb (bit_and (be (octets_at s 6 2)) 0xbfff) 0

abbrev pub protocol : List ℕ → ℕ
protocol s = le (octets_at s 9 1)

abbrev pub source : List ℕ → List ℕ
source s = octets_at s 12 4
