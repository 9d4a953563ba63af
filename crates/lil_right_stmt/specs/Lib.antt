pub mod Assignments
pub mod Counting
pub mod Nodes
pub mod Statements
