pub mod Placeless
pub mod inner
