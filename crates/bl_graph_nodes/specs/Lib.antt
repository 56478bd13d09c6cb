pub mod Laws
pub mod Nodes
pub mod Plain
pub mod Steps
pub mod Writes
