-- What is shown of `deadline` beside the proofs of its functions. Assumes nothing.
pub mod Unique
