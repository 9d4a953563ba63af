pub mod Laws
pub mod Object
pub mod Written
