pub mod Callees
pub mod Listed
pub mod Runs
pub mod Told
pub mod inner
