pub mod Accesses
pub mod Forms
pub mod Generating
pub mod Calling
pub mod Callees
pub mod Numbers
pub mod Strings
pub mod Variables
