pub mod Structs
pub mod inner
