pub mod Constants
pub mod Headings
pub mod Decls
