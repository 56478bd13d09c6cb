pub mod Numbers
pub mod Passes
pub mod Rests
pub mod Traces
pub mod Waiting
