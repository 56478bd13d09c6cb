pub mod Guards
pub mod Nodes
pub mod Whole
pub mod Words
