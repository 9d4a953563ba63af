pub mod Laws
pub mod Least
pub mod LeastLaws
pub mod Told
pub mod Faults
