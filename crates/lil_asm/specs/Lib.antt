pub mod Bytes
pub mod Decoding
pub mod Requests
pub mod Standing
pub mod Stretches
