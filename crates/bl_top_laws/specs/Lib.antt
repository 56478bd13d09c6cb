pub mod Complete
pub mod Correct
pub mod Driven
pub mod Theorem
