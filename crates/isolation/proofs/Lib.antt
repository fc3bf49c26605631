-- Demand 3 holds, of the classifier and of the gate, and the places are what they are said to be. Assumes nothing.
pub mod Reading
pub mod Calls
pub mod Pinned
