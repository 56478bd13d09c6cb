pub mod Begun
pub mod Parts
