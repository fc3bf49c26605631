-- What is shown of `export_gate_c` beside the proof of its function. Assumes nothing.
pub mod Unique
