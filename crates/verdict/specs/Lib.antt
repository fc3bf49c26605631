-- The definitions that the contracts of `verdict` cite. Assumes nothing.
pub mod Verdict
