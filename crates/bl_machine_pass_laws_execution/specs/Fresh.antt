pub mod Asks
pub mod Fresh
pub mod Laws
pub mod Senses
