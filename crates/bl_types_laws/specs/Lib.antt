pub mod Within
pub mod Fitting
pub mod Standing
pub mod Starts
pub mod inner
