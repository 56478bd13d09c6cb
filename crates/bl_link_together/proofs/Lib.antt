pub mod Joining
pub mod Trees
