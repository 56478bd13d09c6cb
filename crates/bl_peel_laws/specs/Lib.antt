pub mod Places
pub mod Prevs
pub mod Rules
