-- What is shown of `config` beside the proofs of its functions. Assumes nothing.
pub mod AddressLaws
pub mod ConfigLaws
pub mod Held
pub mod Unique
