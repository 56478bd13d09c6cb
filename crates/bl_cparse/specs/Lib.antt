pub mod HasPlaces
pub mod Places
pub mod inner
