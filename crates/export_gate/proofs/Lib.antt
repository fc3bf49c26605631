-- What is shown of `export_gate` beside the proofs of its functions. Assumes nothing.
pub mod Unique
