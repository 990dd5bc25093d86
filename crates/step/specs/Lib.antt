-- In the order to be read. The last has terms of private contracts alone.
pub mod Operations
pub mod Registers
pub mod Perform
pub mod Run
pub mod Lent
pub mod Parts
pub mod Lines
pub mod Rack
pub mod Course
