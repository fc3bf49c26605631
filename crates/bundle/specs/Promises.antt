-- What is promised of reading a bundle beside the contracts. Each claim is proved in proofs/. Assumes nothing.
use Rattle.std.specs.Prelude.{ℕ, ◌*◌, ◌≤◌, ◌≡◌, List, length}
use Rattle.text.specs.Text.{last_place}
use Rattle.bundle.specs.Feed.{map_feed}
use Rattle.bundle.specs.Frames.{bundle_of}
use Rattle.bundle.specs.Cursor.{start_of, desk, place_of, desk_feed}

-- a packet's frame takes six bytes or more
abbrev pub FewCalls : Type 0
FewCalls = (s : List ℕ) → 6 * length (bundle_of s).calls ≤ length s

-- whoever reads from the start on, with lent bytes that are no shorter than the bundle, has the bundle's calls, its ending, and at its end
-- the state that is in force there
abbrev pub Followed : Type 0
Followed = (s t : List ℕ) → length s ≤ length t → length t ≤ last_place → map_feed (place_of s) (desk_feed s (desk (start_of (length s)) t)) ≡ bundle_of s
