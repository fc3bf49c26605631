-- What is shown of `authority` beside the proofs of its functions. Assumes nothing.
pub mod AuthorityLaws
pub mod Unique
