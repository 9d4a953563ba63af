pub mod Closings
pub mod Items
pub mod Need
pub mod Runs
pub mod Steps
pub mod World
