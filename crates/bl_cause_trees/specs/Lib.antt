pub mod Laws
pub mod Peeled
pub mod Rules
pub mod inner
