pub mod Bytes
pub mod States
pub mod inner
