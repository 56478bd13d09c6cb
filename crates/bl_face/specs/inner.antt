pub mod Reader
pub mod States
pub mod Stops
