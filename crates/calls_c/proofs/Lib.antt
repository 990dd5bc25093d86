-- The law of the contract.
pub mod Determined
