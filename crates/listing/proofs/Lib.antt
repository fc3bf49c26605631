-- The laws of `listing`: what a line prints, how long a listing is, a listing that is under way, and the answer as the contract's alone.
-- Assumes nothing.
pub mod Names
pub mod Bound
pub mod ListingLaws
pub mod Unique
