pub mod Copying
pub mod Inputs
pub mod Result
