pub mod Begins
pub mod Counters
pub mod Entry
pub mod Files
pub mod States
