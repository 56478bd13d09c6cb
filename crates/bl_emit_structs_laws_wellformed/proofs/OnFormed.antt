pub mod Faultless
pub mod Levels
pub mod Types
pub mod Whole
