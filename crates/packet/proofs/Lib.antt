-- The laws of `packet`: the answer is the contract's alone; the count, and the sorting. Assumes nothing.
pub mod Laws
pub mod Unique
pub mod Count
pub mod Sorting
