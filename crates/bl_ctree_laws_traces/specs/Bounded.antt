pub mod Bounds
pub mod Differ
pub mod TickPasses
