pub mod Calls
pub mod Functions
pub mod Given
pub mod Places
pub mod Procedures
pub mod Told
pub mod Wholes
