pub mod Linking
pub mod Modules
