pub mod FieldLaws
pub mod Format
pub mod FormatLaws
pub mod Names
pub mod Reading
pub mod Stays
pub mod Turns
