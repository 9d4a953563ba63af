pub mod Room
pub mod Shapes
