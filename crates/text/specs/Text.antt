-- Text as bytes: ASCII, and numbers in decimal. Then text written at a place of a buffer. Assumes nothing.
use Rattle.std.specs.Prelude.{ℕ, zero, suc, ◌+◌, ◌/◌, ◌%◌, ◌≡◌, cond, List, [], ◌∷◌, ◌++◌, length, ltb}
use Rattle.octets.specs.Octets.{put}
use Prim.Native.String.{String, [] as none, ◌∷◌ as ◌then◌}
use Prim.Native.Char.{code}

-- the bytes of a text in ASCII
abbrev pub ascii : String → List ℕ
ascii none = []
ascii (c then s) = code c ∷ ascii s

-- a number in decimal, of at most so many digits
unfoldable pub decimal_in : ℕ → ℕ → List ℕ
decimal_in zero n = []
decimal_in (suc p) n = cond (ltb n 10) ((48 + n) ∷ []) (decimal_in p (n / 10) ++ ((48 + n % 10) ∷ []))

-- twenty digits hold every number of 64 bits
abbrev pub decimal : ℕ → List ℕ
decimal n = decimal_in 20 n

-- a line of a word and a number
abbrev pub numbered : List ℕ → ℕ → List ℕ
numbered word n = word ++ decimal n ++ ascii "\n"

-- the last place that 64 bits number: every slice ends at it or before
abbrev pub last_place : ℕ
last_place = 18_446_744_073_709_551_615

-- the place after n bytes from a place on, or the last place where that would be more
unfoldable pub after : ℕ → ℕ → ℕ
after at n = cond (ltb last_place (at + n)) last_place (at + n)

-- d' is d with a text at a place, of which what would lie past the end is dropped; r is the place after the whole text
pub record Wrote (d : List ℕ) (at : ℕ) (text d' : List ℕ) (r : ℕ) : Type 0 where
  pub bytes : d' ≡ put d at text
  pub past : r ≡ after at (length text)
