pub mod Bounded
pub mod Progress
pub mod Ready
pub mod Traces
