pub mod Decided
pub mod Plain
pub mod Told
