-- The definitions that the contract of `export_gate` cites. Assumes nothing.
pub mod Export
