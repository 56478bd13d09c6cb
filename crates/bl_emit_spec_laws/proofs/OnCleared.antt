pub mod Clearing
pub mod Finding
