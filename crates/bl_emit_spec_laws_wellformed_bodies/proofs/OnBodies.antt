pub mod Lists
pub mod Running
pub mod Starts
pub mod Variables
pub mod Guards
pub mod Calls
pub mod Nodes
pub mod Whole
