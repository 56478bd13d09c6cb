pub mod Accepted
pub mod Allowed
pub mod Extending
