-- What spans the layers: 01's examples, the gate as `decide_egress`, calls at the rules' edges, listings and their laws, and there and
-- back of the images for C. Assumes nothing.
pub mod Examples
pub mod Decided
pub mod Calls
pub mod Listings
pub mod Bundles
pub mod Images
