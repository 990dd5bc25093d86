-- The law of the contracts.
pub mod Determined
