pub mod Declared
pub mod inner
