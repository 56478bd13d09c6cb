pub mod Formed
pub mod Spelled
