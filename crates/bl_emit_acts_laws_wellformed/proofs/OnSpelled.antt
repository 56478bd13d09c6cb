pub mod Fits
pub mod Literals
pub mod Names
pub mod Operators
pub mod Shapes
pub mod Whole
