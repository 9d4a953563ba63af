pub mod Gathering
pub mod Laws
pub mod Meeting
pub mod Ran
pub mod Stored
