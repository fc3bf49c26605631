-- The laws of `table`: the search, what is found, and the answer as the contract's alone. Assumes nothing.
pub mod TableLaws
pub mod Unique
