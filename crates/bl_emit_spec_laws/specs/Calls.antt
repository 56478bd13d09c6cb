pub mod Built
pub mod Calls
pub mod Laws
pub mod Memories
pub mod Invariant
