pub mod Numbers
pub mod Sleeping
pub mod Steps
pub mod Turns
pub mod Waiting
pub mod Width
