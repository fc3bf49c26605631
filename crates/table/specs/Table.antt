-- A table of cookie values, and its records under a key (document 01, 'The gate's thirteen rules'). Assumes nothing.
use Rattle.std.specs.Prelude.{ℕ, zero, suc, ◌+◌, ◌/◌, ◌%◌, ◌≡◌, Bool, cond, ◌&&◌, List, [], ◌∷◌, length, take, drop, eqb, leb}
use Rattle.octets.specs.Octets.{octets_at, le}
use Rattle.std.specs.Borrow.{Bor}

-- a record has 40 bytes; a table has at most 4,096 of them
abbrev pub record_length : ℕ
record_length = 40

abbrev pub table_limit : ℕ
table_limit = 163_840

-- "Table length not a multiple of 40, or over 163,840" is not admissible; 0 is
unfoldable pub admissible : List ℕ → Bool
admissible s = eqb (length s % record_length) 0 && leb (length s) table_limit

-- the first n records of s
unfoldable pub records_in : ℕ → List ℕ → List (List ℕ)
records_in zero s = []
records_in (suc n) s = take record_length s ∷ records_in n (drop record_length s)

-- the whole records of a table of any length; a part record at the end is none
unfoldable pub records : List ℕ → List (List ℕ)
records s = records_in (length s / record_length) s

-- "with cookie k and that token in bytes 8-23"
unfoldable pub is_under : ℕ → ℕ → List ℕ → Bool
is_under k t r = eqb (le (octets_at r 8 8)) k && eqb (le (octets_at r 16 8)) t

-- the records under a key, in their order
unfoldable pub under : ℕ → ℕ → List (List ℕ) → List (List ℕ)
under k t [] = []
under k t (r ∷ rs) = cond (is_under k t r) (r ∷ under k t rs) (under k t rs)

-- the first of some records; no bytes where there is none
unfoldable pub first_of : List (List ℕ) → List ℕ
first_of [] = []
first_of (r ∷ rs) = r

-- where the first record under a key lies, of records of which the first lies at the place at: 40 further on for each that is passed;
-- 0, the table's start, where there is none
unfoldable pub place_from : ℕ → ℕ → ℕ → List (List ℕ) → ℕ
place_from at k t [] = 0
place_from at k t (r ∷ rs) = cond (is_under k t r) at (place_from (at + record_length) k t rs)

abbrev pub place_of : ℕ → ℕ → List (List ℕ) → ℕ
place_of k t rs = place_from 0 k t rs

-- the place so many bytes after the start of a slice
abbrev pub after : Bor (List ℕ) → ℕ → ℕ × ℕ
after s n = (s.ref_ptr.0, s.ref_ptr.1 + n)

-- "When the search finds a whole record, it hands back those 40 bytes of the caller's own table, else an empty part": the part has the
-- first record's bytes, or none, and lies where that record does
pub record FirstUnder (k t : ℕ) (table part : Bor (List ℕ)) : Type 0 where
  pub bytes : part.now ≡ first_of (under k t (records table.now))
  pub place : part.ref_ptr ≡ after table (place_of k t (records table.now))
