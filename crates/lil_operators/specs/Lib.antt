pub mod Operations
pub mod Gathering
