pub mod Edges
pub mod GraphsMoved
pub mod Nodes
pub mod Plains
