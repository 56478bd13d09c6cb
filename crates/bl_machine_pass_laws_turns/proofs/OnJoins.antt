pub mod Joining
pub mod Lists
pub mod Marking
pub mod Resting
pub mod Ruling
pub mod Standing
pub mod Stemming
