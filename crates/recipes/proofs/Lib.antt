pub mod Steps
pub mod Accepting
mod Words
mod Digits
pub mod Settling
mod LineByLine
mod Places
mod Judging
mod Laying
pub mod Columns
pub mod Agreeing
pub mod Cut
pub mod Legal
mod Printing
mod Chain
mod Registers
mod Verbs
mod Numbers
mod Whole
mod Wide
mod Doing
pub mod Demand
mod RunByRule
pub mod Meaning
pub mod Room
pub mod Sums
pub mod Excluded
pub mod Determined
