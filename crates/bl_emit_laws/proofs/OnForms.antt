pub mod Copying
pub mod Forms
