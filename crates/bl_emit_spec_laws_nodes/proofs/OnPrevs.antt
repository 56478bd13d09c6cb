pub mod Acting
pub mod Prevs
