-- The definitions that the contracts of `text` cite, and what is proved of them. Assumes nothing.
pub mod Text
pub mod Promises
