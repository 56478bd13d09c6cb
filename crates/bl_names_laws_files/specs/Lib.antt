pub mod Globals
pub mod Laws
