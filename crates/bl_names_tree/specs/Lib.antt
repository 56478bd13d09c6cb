pub mod Placed
pub mod Starts
pub mod inner
