pub mod Command
pub mod Compiled
pub mod Layers
pub mod Left
pub mod LeftLaws
