pub mod Nodes
pub mod Labels
pub mod Counting
pub mod Statements
pub mod Texts
pub mod Stmts
pub mod Induction
pub mod Whole
