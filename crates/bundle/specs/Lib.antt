-- The definitions that the contracts of `bundle` cite, and what is promised of reading a bundle. Assumes nothing.
pub mod Feed
pub mod Kinds
pub mod Frames
pub mod Cursor
pub mod Promises
pub mod Inner
