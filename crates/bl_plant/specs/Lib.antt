pub mod Kinds
pub mod Plants
pub mod inner
