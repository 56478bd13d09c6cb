pub mod Copies
pub mod Rules
