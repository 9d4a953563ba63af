pub mod Counted
pub mod Bodies
