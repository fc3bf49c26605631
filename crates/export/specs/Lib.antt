-- The definitions that the contracts of `export` cite. Assumes nothing.
pub mod Export
pub mod View
pub mod Views
pub mod Inner
