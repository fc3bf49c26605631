-- Demand 3: the places of a packet that may matter, what isolation is, and packets on which the places are pinned. Assumes nothing.
pub mod Places
pub mod Isolation
pub mod Pinned
