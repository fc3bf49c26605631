-- What inner functions are held to. No definition of the record rests on what is here. Assumes nothing.
pub mod Steps
