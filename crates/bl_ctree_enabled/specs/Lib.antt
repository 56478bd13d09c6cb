pub mod Laws
pub mod Listing
pub mod Spots
pub mod inner
