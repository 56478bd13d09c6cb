pub mod Bounded
pub mod Counts
