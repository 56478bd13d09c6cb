pub mod Groups
pub mod Merging
pub mod Ways
