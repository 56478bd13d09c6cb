pub mod Changes
pub mod Functions
pub mod Meaning
pub mod Standing
pub mod Values
