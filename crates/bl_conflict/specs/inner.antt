pub mod Failures
pub mod Roots
