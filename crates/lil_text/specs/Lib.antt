pub mod Cuts
pub mod Lexical
pub mod Nesting
pub mod Operators
pub mod Trees
