pub mod Named
pub mod Starts
