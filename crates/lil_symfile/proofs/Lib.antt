pub mod KindLaws
pub mod NameLaws
pub mod Samples
pub mod Spelled
