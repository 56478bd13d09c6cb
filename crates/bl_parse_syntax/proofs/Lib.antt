pub mod Checks
pub mod Right
pub mod Predictive
pub mod Depths
pub mod Reading
pub mod Once
pub mod Expecting
