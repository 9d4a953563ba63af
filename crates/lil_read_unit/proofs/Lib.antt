pub mod Answering
pub mod Counting
pub mod Layers
pub mod Soonest
pub mod Wholes
