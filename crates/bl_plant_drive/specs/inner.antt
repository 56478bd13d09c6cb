pub mod Begins
pub mod Names
pub mod Round
pub mod Stands
pub mod Ticks
