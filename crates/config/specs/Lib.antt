-- The definitions that the contracts of `config` cite: the codec of a configuration, and what is promised of it. Assumes nothing.
pub mod Config
pub mod Promises
