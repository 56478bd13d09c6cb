pub mod Branches
pub mod Laws
