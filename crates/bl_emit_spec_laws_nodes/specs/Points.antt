pub mod Acts
pub mod Laws
pub mod Nodes
pub mod Points
