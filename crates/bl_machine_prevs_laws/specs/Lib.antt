pub mod Names
pub mod Scalar
pub mod Types
