pub mod Answers
pub mod Bodies
pub mod Lines
pub mod Runs
pub mod Settings
pub mod Steps
pub mod Unrolls
