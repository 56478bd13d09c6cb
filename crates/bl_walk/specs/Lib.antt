pub mod Choices
pub mod Laws
pub mod Lines
pub mod Walks
pub mod inner
