pub mod Names
pub mod Operators
pub mod Reach
pub mod Sets
pub mod Values
