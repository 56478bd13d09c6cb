pub mod Fits
pub mod Seen
pub mod Starts
