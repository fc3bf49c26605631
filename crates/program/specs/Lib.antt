-- The definitions that the contracts of `program` cite. Assumes nothing.
pub mod Reading
pub mod Status
