-- The definitions that the contracts of `endpoint` cite. Assumes nothing.
pub mod Endpoint
