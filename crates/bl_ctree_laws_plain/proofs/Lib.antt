pub mod Finding
pub mod Recovering
pub mod Standing
