pub mod Counts
pub mod Peeling
