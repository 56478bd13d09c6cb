pub mod Awaiting
pub mod Nest
pub mod Partial
pub mod Parts
pub mod Reading
