-- The definitions that the contracts of `records` cite: a codec for each of its three records. Assumes nothing.
pub mod Key
pub mod Entry
pub mod CookieValue
pub mod Promises
