-- The definitions that the contracts of `deadline` cite. Assumes nothing.
pub mod Deadline
