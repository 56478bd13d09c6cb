pub mod Counted
pub mod Merged
pub mod OnShown
pub mod Whole
