pub mod Entering
pub mod Imports
pub mod Interfaces
pub mod Moving
pub mod Own
pub mod Sources
pub mod Standard
