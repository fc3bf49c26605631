-- What is shown of `export` beside the proofs of its functions. Assumes nothing.
pub mod StoreLaws
pub mod ViewLaws
pub mod Viewables
pub mod InspectionLaws
pub mod UniqueLaws
pub mod LentLaws
pub mod Unique
