-- What the proofs of several functions use, and the laws of the contracts.
mod Naming
pub mod Racking
mod Telling
pub mod Round
pub mod Agree
pub mod Determined
mod Turns
pub mod Untold
