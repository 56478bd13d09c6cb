pub mod Declared
pub mod Formed
pub mod Laws
