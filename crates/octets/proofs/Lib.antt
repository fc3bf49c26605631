-- The laws of `octets`, which every crate above cites. Assumes nothing.
pub mod OctetsLaws
pub mod PartsLaws
pub mod PaddedLaws
pub mod SameLaws
pub mod Tools
pub mod Choices
pub mod UniqueLaws
pub mod Unique
