pub mod Count
pub mod Laws
pub mod Peeled
pub mod Units
pub mod inner
