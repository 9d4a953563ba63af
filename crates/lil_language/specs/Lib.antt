pub mod Grammar
pub mod Laws
pub mod Sound
pub mod Trees
pub mod Units
