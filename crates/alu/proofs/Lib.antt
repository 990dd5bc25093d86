pub mod Bounds
pub mod Signed
pub mod Turns
mod Bitwise
mod Formulas
pub mod Minus
pub mod Laws
mod Whole
pub mod Integers
pub mod Wide
pub mod Extension
pub mod Checks
pub mod Rings
pub mod Complement
pub mod Bitops
mod Overflow
pub mod Counts
pub mod Products
pub mod Masked
pub mod Codes
pub mod Tables
pub mod ConditionTable
pub mod Figures
pub mod Sums
pub mod Determined
