pub mod Derivations
pub mod Predictive
pub mod Runs
