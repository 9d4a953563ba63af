pub mod Forms
pub mod Generating
