pub mod Copying
pub mod Homes
pub mod Keeping
pub mod Outputs
pub mod Ruling
