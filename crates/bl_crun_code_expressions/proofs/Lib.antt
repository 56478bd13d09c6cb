pub mod Emitting
pub mod Places
pub mod Calls
