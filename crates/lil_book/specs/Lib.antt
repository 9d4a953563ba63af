pub mod Book
pub mod Laws
