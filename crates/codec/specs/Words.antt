-- The words in which a record is defined: those of octets, of layouts and of codecs, passed on from one place. Assumes nothing.
pub use Rattle.std.specs.Prelude.{ℕ, ◌+◌, ◌%◌, ◌^◌, ◌<◌, ◌≡◌, Bool, true, false, cond, not, ◌&&◌, ◌||◌, List, [], ◌∷◌, get_or, eqb, ltb}
pub use Rattle.octets.specs.Octets.{put}
pub use Rattle.octets.specs.Lists.{among}
pub use Rattle.codec.specs.Layout.{little, laid}
pub use Rattle.codec.specs.Codec.{test, Codec, asking, ok, sound, bytes, Built, Decoded, Encoded}
