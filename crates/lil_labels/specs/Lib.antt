pub mod Tables
pub mod Entries
pub mod Drafts
pub mod Fixing
pub mod Settling
pub mod Emitting
