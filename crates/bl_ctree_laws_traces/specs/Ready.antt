pub mod Never
pub mod Ordered
pub mod Ranks
pub mod Touching
