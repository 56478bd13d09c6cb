pub mod Files
pub mod Fits
pub mod Linked
pub mod inner
