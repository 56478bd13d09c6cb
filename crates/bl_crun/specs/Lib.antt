pub mod Cause
pub mod Done
pub mod Prepared
pub mod Running
pub mod inner
