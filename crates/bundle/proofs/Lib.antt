-- The laws of `bundle`: feeds, frames, the cursor, how many calls there are, and the answers as the contracts' alone. Assumes nothing.
pub mod FeedLaws
pub mod FrameLaws
pub mod DeskLaws
pub mod Counts
pub mod Unique
