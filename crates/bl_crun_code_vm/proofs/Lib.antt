pub mod Counted
pub mod Counts
pub mod Frames
pub mod Operators
pub mod Running
pub mod Steps
