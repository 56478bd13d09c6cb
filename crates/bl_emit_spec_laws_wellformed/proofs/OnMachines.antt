pub mod Counters
pub mod Whole
