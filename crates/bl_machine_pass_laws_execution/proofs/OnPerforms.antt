pub mod Copying
pub mod Keeping
pub mod Performing
pub mod Storing
pub mod Touching
pub mod Turning
