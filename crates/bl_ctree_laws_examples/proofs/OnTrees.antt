pub mod Commuting
pub mod Expanding
pub mod Plainly
pub mod Sets
pub mod Waiting
