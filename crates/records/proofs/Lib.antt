-- What is shown of `records` beside the proofs of its functions. Assumes nothing.
pub mod States
pub mod RecordLaws
pub mod Unique
