pub mod Driven
pub mod Programs
