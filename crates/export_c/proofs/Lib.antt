-- What is shown of `export_c` beside the proofs of its functions. Assumes nothing.
pub mod Unique
