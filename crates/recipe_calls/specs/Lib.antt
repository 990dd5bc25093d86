-- What the contracts of this crate cite, in reading order. The last has terms of private contracts alone.
pub mod Words
pub mod Calls
pub mod Boxes
