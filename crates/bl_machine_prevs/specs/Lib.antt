pub mod Declared
pub mod Prevs
