pub mod Outputs
pub mod Text
