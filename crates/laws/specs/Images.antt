-- There and back, from the contracts alone: what is promised of the two functions of every view, and of each of the seven by its name.
-- Assumes nothing.
use Rattle.std.specs.Prelude.{ℕ, ◌≤◌, ◌≡◌, List, ◌++◌, length, take, drop}
use Rattle.octets.specs.Octets.{Bytes}
use Rattle.codec.specs.Layout.{size}
use Rattle.export.specs.View.{View, image_size, ViewDecoded, ViewEncoded}
use Rattle.export.specs.Views.{current_view, mutation_view, key_view, entry_view, cookie_value_view, config_view, inspection_view}

module _ {R : Type 0} (W : View R) where
  -- the image that decoding s gives encodes, where there is room, to s again
  abbrev pub BytesBack : Type 0
  BytesBack =
      (s out out' bytes bytes' : List ℕ) (n : ℕ) → Bytes s → ViewDecoded W s out 0 out' → length s ≤ length bytes →
      ViewEncoded W (take (image_size W) out') bytes n bytes' → (n ≡ 0) × (bytes' ≡ s ++ drop (length s) bytes)

  -- the bytes that encoding the image f gives decode, where there is room, to f again
  abbrev pub ImageBack : Type 0
  ImageBack =
      (f bytes bytes' out out' : List ℕ) (n : ℕ) → Bytes f → ViewEncoded W f bytes 0 bytes' → length f ≤ length out →
      ViewDecoded W (take (size W.codec.layout) bytes') out n out' → (n ≡ 0) × (out' ≡ f ++ drop (length f) out)

  pub record RoundTrips : Type 0 where
    pub bytes_back : BytesBack
    pub image_back : ImageBack

-- each of the seven records goes there and back
pub record SevenRounds : Type 0 where
  pub current_round : RoundTrips current_view
  pub mutation_round : RoundTrips mutation_view
  pub key_round : RoundTrips key_view
  pub entry_round : RoundTrips entry_view
  pub cookie_value_round : RoundTrips cookie_value_view
  pub config_round : RoundTrips config_view
  pub inspection_round : RoundTrips inspection_view
