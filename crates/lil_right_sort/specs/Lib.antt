pub mod Growth
pub mod Ranges
pub mod Labels
pub mod Simple
pub mod Routines
pub mod Sorts
