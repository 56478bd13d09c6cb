pub mod Depth
pub mod Stacks
