pub mod Acts
pub mod Expressions
pub mod Places
pub mod Sites
pub mod Structs
pub mod Trees
pub mod Types
