pub mod Flags
pub mod Ifs
pub mod Laws
pub mod Own
