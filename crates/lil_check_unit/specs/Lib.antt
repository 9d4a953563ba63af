pub mod Modules
pub mod UnitLaws
pub mod Units
pub mod Whole
