-- How the containers of this crate hold their values.
pub mod items
pub mod boxed
