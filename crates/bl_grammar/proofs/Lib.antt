pub mod Predictive
pub mod Runs
pub mod Splits
