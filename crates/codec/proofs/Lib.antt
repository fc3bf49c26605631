-- The laws of layouts and codecs, which every record cites. Assumes nothing.
pub mod LayoutLaws
pub mod TestLaws
pub mod CodecLaws
pub mod AnswerLaws
pub mod UniqueLaws
pub mod Unique
