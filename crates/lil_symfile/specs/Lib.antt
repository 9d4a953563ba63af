pub mod Kinds
pub mod Laws
pub mod Numbers
pub mod Seen
pub mod Symbol
pub mod Written
