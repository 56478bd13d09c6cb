pub mod Agreeing
pub mod Places
pub mod Parts
pub mod Standing
pub mod Walked
pub mod Written
