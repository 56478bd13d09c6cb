pub mod Agreeing
pub mod Entries
pub mod Walk
