pub mod Codes
pub mod Elements
pub mod Sets
pub mod Opens
