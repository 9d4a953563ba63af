-- The list.
pub mod Items
