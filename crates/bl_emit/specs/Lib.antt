pub mod Activities
pub mod Kept
pub mod Programs
pub mod inner
