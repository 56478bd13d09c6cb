pub mod Driven
pub mod Drives
pub mod Roles
pub mod inner
