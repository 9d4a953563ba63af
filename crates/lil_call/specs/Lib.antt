pub mod Calls
pub mod Passing
pub mod Procedures
