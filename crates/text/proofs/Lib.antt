-- The laws of `text`: places and digits, what is promised of text (specs/Promises.antt), and the answers as the contracts' alone.
-- Assumes nothing.
pub mod TextLaws
pub mod Digits
pub mod Lines
pub mod Unique
