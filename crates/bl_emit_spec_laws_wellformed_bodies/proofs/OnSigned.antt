pub mod Head
pub mod Turns
