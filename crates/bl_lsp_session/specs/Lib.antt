pub mod Answers
pub mod Found
pub mod Sessions
pub mod inner
