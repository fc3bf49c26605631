-- What inner functions are held to. No definition of a record rests on what is here. Assumes nothing.
pub mod Stores
