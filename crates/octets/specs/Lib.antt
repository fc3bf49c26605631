-- The definitions that the contracts of `octets` cite, and those on which every crate above builds. Assumes nothing.
pub mod Words
pub mod Octets
pub mod Lists
pub mod Determined
