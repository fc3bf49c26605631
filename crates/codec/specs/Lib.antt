-- The definitions that every record is made of: layouts, codecs, the words for both, the head that three of them share, and what is
-- promised of each. Assumes nothing.
pub mod Layout
pub mod Codec
pub mod Answers
pub mod Words
pub mod Head
pub mod Promises
pub mod Inner
