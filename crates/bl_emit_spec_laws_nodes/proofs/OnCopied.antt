pub mod Copied
pub mod Expressions
pub mod Statements
