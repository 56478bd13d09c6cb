pub mod Declared
pub mod Scoped
pub mod inner
