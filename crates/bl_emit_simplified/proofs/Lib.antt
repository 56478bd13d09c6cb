pub mod Interfaces
pub mod Shown
