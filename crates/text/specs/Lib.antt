-- In the order to be read.
pub mod Text
pub mod Wrote
