-- The definitions that the contracts of `packet` cite, by document. Assumes nothing.
pub mod Rfc791
pub mod Rfc768
pub mod Rfc8200
pub mod Rfc4302
pub mod Reading
pub mod Answers
pub mod Promises
pub mod Example
pub mod Inner
