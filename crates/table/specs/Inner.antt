-- What the inner functions of `table` are held to. What a table means does not rest on it. Assumes nothing.
pub mod Search
