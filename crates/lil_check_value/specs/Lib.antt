pub mod Designators
pub mod Looks
pub mod Tree
pub mod Values
