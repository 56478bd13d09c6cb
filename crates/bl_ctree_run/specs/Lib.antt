pub mod Outputs
pub mod Running
pub mod inner
