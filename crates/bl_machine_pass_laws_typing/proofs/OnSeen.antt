pub mod Outcomes
pub mod Seeing
pub mod Values
