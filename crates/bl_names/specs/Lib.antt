pub mod Named
pub mod Naming
pub mod Order
pub mod inner
