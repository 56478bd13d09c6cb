pub mod Behaviour
pub mod Bytes
