-- What inner functions are held to. What the exported functions promise does not rest on it: the octets that stand in the end are those
-- of `laid`. Assumes nothing.
pub mod Steps
