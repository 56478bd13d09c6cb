pub mod Entered
pub mod Sharing
pub mod Words
