pub mod Depths
pub mod WellFormed
pub mod Names
pub mod Starts
