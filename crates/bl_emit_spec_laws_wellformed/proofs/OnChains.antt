pub mod Called
pub mod Chains
pub mod Growing
pub mod Nodes
