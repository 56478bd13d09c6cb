pub mod Cause
pub mod Programs
