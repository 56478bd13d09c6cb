pub mod Gathered
pub mod Reports
pub mod Streams
pub mod inner
