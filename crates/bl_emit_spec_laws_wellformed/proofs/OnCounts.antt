pub mod Counts
pub mod Whole
