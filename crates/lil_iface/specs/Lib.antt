pub mod Iface
pub mod Known
pub mod Laws
pub mod Listed
