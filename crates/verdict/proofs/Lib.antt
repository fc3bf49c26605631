-- The laws of `verdict`: no two verdicts share a slot, and the answer of each public function is its contract's alone. Assumes nothing.
pub mod Laws
pub mod Unique
