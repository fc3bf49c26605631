-- What the inner functions of `packet` are held to. What a packet means does not rest on it. Assumes nothing.
pub mod Steps
