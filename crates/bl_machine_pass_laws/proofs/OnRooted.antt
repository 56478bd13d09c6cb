pub mod Covers
pub mod Holding
pub mod Resting
pub mod Resuming
pub mod Rooting
pub mod Sleeping
