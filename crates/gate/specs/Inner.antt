-- What the inner functions of `gate` are held to. 01's rules do not rest on it. Assumes nothing.
pub mod Steps
