pub mod Causes
pub mod Layers
pub mod Peeled
