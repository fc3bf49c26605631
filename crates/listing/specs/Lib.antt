-- The definitions that the contracts of `listing` cite, and how long a listing is. Assumes nothing.
pub mod Listing
pub mod Promises
