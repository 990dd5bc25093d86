pub mod Operations
pub mod Laws
pub mod Sound
pub mod Figures
pub mod Promises
pub mod Leading
pub mod Lines
pub mod Resumed
pub mod Rows
pub mod Boxes
pub mod Kept
mod Running
mod Stepping
pub mod Numbers
pub mod Determined
pub mod Walks
pub mod Lending
