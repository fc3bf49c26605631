-- The definitions that the contracts of `table` cite. Assumes nothing.
pub mod Table
pub mod Inner
