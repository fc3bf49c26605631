-- How long a listing is, and so what room suffices for one. The other laws of listings are stated in `laws`. Assumes nothing.
use Rattle.std.specs.Prelude.{ℕ, ◌≤◌, ◌≡◌, List, length, Ok}
use Rattle.listing.specs.Listing.{listing, whole, answer_of}

-- no listing is longer
abbrev pub longest_listing : ℕ
longest_listing = 273_060

abbrev pub Bounded : Type 0
Bounded = (s : List ℕ) → length (listing s) ≤ longest_listing

-- so an output with this room always suffices: whoever lends it is never refused, and is told whether the bundle is whole
abbrev pub RoomSuffices : Type 0
RoomSuffices = (s : List ℕ) (room : ℕ) → longest_listing ≤ room → answer_of (listing s) (whole s) room ≡ Ok (record { length = length (listing s); whole = whole s })
