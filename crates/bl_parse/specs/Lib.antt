pub mod At
pub mod Expressions
pub mod Operators
pub mod Programs
pub mod Statements
pub mod Types
pub mod inner
