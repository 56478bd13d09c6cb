pub mod Fresh
pub mod Quiet
pub mod Waking
