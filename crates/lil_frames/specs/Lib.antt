pub mod Blocks
pub mod Store
pub mod WordLaws
pub mod Words
