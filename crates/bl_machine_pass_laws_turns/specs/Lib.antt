pub mod Joins
pub mod Turns
pub mod Waiting
