-- In the order to be read. The last has terms of private contracts alone.
pub mod Bits
pub mod ConditionCodes
pub mod Conditions
pub mod Answers
pub mod Arith
pub mod Shifts
pub mod Bitops
pub mod Sums
pub mod Places
