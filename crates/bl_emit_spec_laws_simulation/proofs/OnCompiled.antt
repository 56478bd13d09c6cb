pub mod Compiling
pub mod Owning
