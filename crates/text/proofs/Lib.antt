pub mod Texts
pub mod Writing
pub mod Values
pub mod Determined
