pub mod Prefixed
pub mod Spans
