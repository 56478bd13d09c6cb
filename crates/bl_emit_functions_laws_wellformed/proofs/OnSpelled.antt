pub mod Acts
pub mod Functions
pub mod Numbers
pub mod Shapes
pub mod Statements
pub mod Types
pub mod Whole
