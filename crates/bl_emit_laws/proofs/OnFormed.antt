pub mod Interface
pub mod Ports
pub mod Whole
