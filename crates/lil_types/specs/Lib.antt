pub mod Adding
pub mod FieldIndex
pub mod Fields
pub mod Folding
pub mod Types
