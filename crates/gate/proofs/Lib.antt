-- The laws of `gate`: the rules, and the answer as the contract's alone. Assumes nothing.
pub mod AddressLaws
pub mod RuleLaws
pub mod TestLaws
pub mod Unique
pub mod Rules
