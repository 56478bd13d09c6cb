pub mod Restored
pub mod Shapes
