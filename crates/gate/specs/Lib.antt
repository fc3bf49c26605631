-- The definitions that the contracts of `gate` cite, and what is promised of the rules. Assumes nothing.
pub mod Gate
pub mod Inner
pub mod Promises
