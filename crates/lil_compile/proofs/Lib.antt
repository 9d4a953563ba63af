pub mod Fitting
pub mod Parts
pub mod Texts
pub mod Unique
pub mod Wholes
