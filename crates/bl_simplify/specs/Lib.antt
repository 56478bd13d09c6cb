pub mod Bodies
pub mod Counters
pub mod Files
pub mod Frames
pub mod Simplified
