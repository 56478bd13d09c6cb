pub mod Along
pub mod Paths
pub mod Running
pub mod Typed
