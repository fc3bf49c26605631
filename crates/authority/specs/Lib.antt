-- The definitions that the contracts of `authority` cite: a codec for each of its two records. Assumes nothing.
pub mod Mutation
pub mod Current
pub mod Promises
