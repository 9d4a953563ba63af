mod Adding
mod Growing
pub mod Instructions
mod Sizes
