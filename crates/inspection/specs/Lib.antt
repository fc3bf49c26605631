-- The definitions that the contracts of `inspection` cite: the inner entry, the codec of the whole, and what is promised of it.
-- Assumes nothing.
pub mod Inspected
pub mod Inspection
pub mod Promises
pub mod Inner
