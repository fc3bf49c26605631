-- What spans the layers. Assumes nothing.
pub mod Examples
pub mod DecidedLaw
pub mod Calls
pub mod EachLine
pub mod Earlier
pub mod Alike
pub mod Bundles
pub mod RoundLaws
pub mod RoundTrips
pub mod EncoderLaws
pub mod ConfigRule
pub mod Steps
