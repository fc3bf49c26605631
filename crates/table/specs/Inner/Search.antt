-- What the search is held to from a place of the table on. `Table` does not rest on it. Assumes nothing.
use Rattle.std.specs.Prelude.{ℕ, ◌≡◌, List, drop}
use Rattle.std.specs.Borrow.{Bor}
use Rattle.table.specs.Table.{records, under, first_of, place_from, after}

-- a part has the bytes of the first record under a key from the place at on, and lies where that record does; from 0 on it is `FirstUnder`
pub record FirstFrom (at k t : ℕ) (table part : Bor (List ℕ)) : Type 0 where
  pub bytes : part.now ≡ first_of (under k t (records (drop at table.now)))
  pub place : part.ref_ptr ≡ after table (place_from at k t (records (drop at table.now)))
