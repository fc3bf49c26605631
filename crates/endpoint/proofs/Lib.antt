-- What is shown of `endpoint` beside the proofs of its functions. Assumes nothing.
pub mod ZeroLaws
pub mod Unique
