pub mod LabelLaws
pub mod Lengths
pub mod Patching
pub mod Rows
