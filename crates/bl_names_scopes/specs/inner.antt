pub mod Failures
pub mod Judged
