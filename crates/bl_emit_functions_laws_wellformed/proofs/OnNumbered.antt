pub mod Counts
pub mod Scalars
pub mod Whole
