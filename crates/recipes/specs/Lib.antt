-- In the order to be read. The last has terms of private contracts alone.
pub mod Recipe
pub mod Rule
pub mod Reader
pub mod Listing
pub mod Demand
pub mod Printer
pub mod Sums
pub mod Making
