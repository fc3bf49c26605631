-- What is shown of `inspection` beside the proofs of its functions. Assumes nothing.
pub mod PartLaws
pub mod InspectionLaws
pub mod ReadLaws
pub mod Unique
