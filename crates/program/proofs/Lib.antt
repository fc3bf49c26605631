-- What is shown of `program` beside the proofs of its functions. Assumes nothing.
pub mod Unique
