-- The box.
pub mod Boxed
