pub mod Ranges
pub mod Running
pub mod State
pub mod Stepping
