-- What the functions inside `bundle` are held to. What a bundle means does not rest on this. Assumes nothing.
pub mod Steps
