pub mod Data
pub mod Strings
