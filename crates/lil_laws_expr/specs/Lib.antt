pub mod Expressions
pub mod Operators
pub mod Sets
