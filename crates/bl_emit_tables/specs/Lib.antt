pub mod Needed
pub mod Sizes
pub mod Told
pub mod Words
