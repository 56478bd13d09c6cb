pub mod Closed
pub mod Instances
pub mod Running
